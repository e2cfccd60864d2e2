-- What a text is held as.
use Rattle.std.specs.Prelude.{ℕ, List}
use Rattle.std.specs.String.{string_bytes}
use Rattle.mp_codec.specs.declared.text.Held.{Held}
use Rattle.mp_codec.specs.declared.text.Held.TheVariants.{Short, Long}

-- the bytes of a text that is held
abbrev pub held_bytes : Held → List ℕ
held_bytes (Short text) = text
held_bytes (Long text) = string_bytes text
