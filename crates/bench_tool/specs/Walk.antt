-- Bytes that are values, one behind the other up to the end.
use Rattle.std.specs.Prelude.{ℕ, List}
use Rattle.gateway_words.specs.Places.{start_of}
use Rattle.mp_codec.specs.declared.fault.FormatFault.{FormatFault}
use Rattle.mp_codec.specs.Value.{Values}
use Rattle.mp_codec.specs.Spelling.{SpellsAll, Breaks}

-- these bytes spell some values and nothing else
abbrev pub AreValues : List ℕ → Type 0
AreValues bytes = (vs : Values) × SpellsAll vs bytes

-- behind some whole values another one breaks off
abbrev pub BreakOff : List ℕ → FormatFault → Type 0
BreakOff bytes f = (n : ℕ) × Breaks n (start_of bytes) f
