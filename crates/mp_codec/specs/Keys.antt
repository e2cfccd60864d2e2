-- Known keys of a map: which stand in it, and what may be wrong with them.
use Rattle.std.specs.Prelude.{◌≡◌, ◌&&◌, Bool, true, false, ℕ, List, [], ◌∷◌, Option, Some, None, is_some, if◌then◌else◌}
use Rattle.std.specs.Str.{bytes_eq}
use Rattle.std.specs.List.{list_any, list_all}
use Rattle.gateway_words.specs.Places.{Position}
use Rattle.mp_codec.specs.declared.fault.FormatFault.{FormatFault}
use Rattle.mp_codec.specs.declared.fault.FaultKind.TheVariants as kind
use Rattle.mp_codec.specs.Value.{Value, Pairs, str_of}
use Rattle.mp_codec.specs.Spelling.{Lies}
use Rattle.mp_codec.specs.Fault.{fault_here}

-- the payload of a str, where there is one, is this name
abbrev pub has_bytes : List ℕ → Option (List ℕ) → Bool
has_bytes name (Some bytes) = bytes_eq bytes name
has_bytes name None = false

-- the key is a str of this name
abbrev pub is_key : List ℕ → Value → Bool
is_key name key = has_bytes name (str_of key)

-- the key is a str of one of these names
abbrev pub is_one_of : List (List ℕ) → Value → Bool
is_one_of names key = list_any (λ name. is_key name key) names

-- the value behind the first key of this name
abbrev pub value_at : List ℕ → Pairs → Option Value
value_at name [] = None
value_at name (p ∷ ps) = if is_key name p.0 then Some p.1 else value_at name ps

-- the map has a key of this name
abbrev pub has_key : List ℕ → Pairs → Bool
has_key name ps = is_some (value_at name ps)

-- the key is of one of these names, and a key of that name stands in front already
abbrev pub is_repeated : List (List ℕ) → Pairs → Value → Bool
is_repeated names front key = list_any (λ name. is_key name key && has_key name front) names

-- a known key that stands a second time
pub data RepeatedKey (names : List (List ℕ)) (front : Pairs) : Position → FormatFault → Type 0 where
  repeated : {here there : Position} {key : Value} → Lies key here there → is_repeated names front key ≡ true → RepeatedKey names front here (fault_here kind.Repeated here)

-- a map that ends without one of these keys
pub data MissingKey (names : List (List ℕ)) (front : Pairs) : Position → FormatFault → Type 0 where
  missing : {here : Position} → list_all (λ name. has_key name front) names ≡ false → MissingKey names front here (fault_here kind.Missing here)
