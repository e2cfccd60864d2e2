-- Faults as sets: which faults stand in some bytes, each with its place, and which of them is the first.
use Rattle.std.specs.Prelude.{◌≡◌, ℕ, zero, suc, ◌<◌, ◌⊎◌, false, List, [], ◌∷◌, ◌++◌, length, Option, Some, None, Ok}
use Rattle.std.specs.Str.{is_utf8}
use Rattle.gateway_words.specs.Places.{Position, IsFirst, start_of}
use Rattle.mp_codec.specs.declared.fault.FormatFault.{FormatFault}
use Rattle.mp_codec.specs.declared.fault.FaultKind.{FaultKind}
use Rattle.mp_codec.specs.declared.fault.FaultKind.TheVariants as kind
use Rattle.mp_codec.specs.declared.head.Head.{Head}
use Rattle.mp_codec.specs.Value.{Value, Pairs, str_len, map_len, str_of}
use Rattle.mp_codec.specs.Spelling.{Lies, Breaks}
use Rattle.mp_codec.specs.Reading.{head_from}

-- f stands before g, or is g; at one place Missing stands before the others
abbrev pub Before : FormatFault → FormatFault → Type 0
Before f g = (f.at < g.at) ⊎ ((f.at ≡ g.at) × ((f.kind ≡ kind.Missing) ⊎ (f ≡ g)))

-- f is the first of some faults
abbrev pub IsFirstFault : (FormatFault → Type 0) → FormatFault → Type 0
IsFirstFault faults f = IsFirst Before faults f

-- what may be wrong with what stands at a position
abbrev pub Faults : Type 1
Faults = Position → FormatFault → Type 0

-- nothing may be wrong
abbrev pub no_fault : Faults
no_fault here f = ⊥

-- a fault of this kind at this place
abbrev pub fault_here : FaultKind → Position → FormatFault
fault_here kind here = record { at = here.at; kind = kind }

-- a fault of the value here, or, behind that value, of what follows it
abbrev pub Then : Faults → (Value → Faults) → Faults
Then first rest here f = first here f ⊎ ((v : Value) × (there : Position) × Lies v here there × rest v there f)

-- all that may be wrong here: these faults, and that the value breaks off
abbrev pub WithBreaks : Faults → Faults
WithBreaks faults here f = faults here f ⊎ Breaks 1 here f

-- a value that must be text: it is no str, or it isn't UTF-8
pub data TextFault : Position → FormatFault → Type 0 where
  no_str : {here there : Position} {h : Head} → head_from here ≡ Ok (h, there) → str_len h ≡ None → TextFault here (fault_here kind.Wrong here)
  not_text : {here there : Position} {v : Value} {payload : List ℕ} → Lies v here there → str_of v ≡ Some payload → is_utf8 payload ≡ false → TextFault here (fault_here kind.NotText here)

-- a value that lies here says this by a function of values, and there is the position behind it
pub record ValueLies {X : Type 0} (says : Value → Option X) (said : Option X) (here there : Position) : Type 0 where
  pub value : Value
  pub lies : Lies value here there
  pub is : says value ≡ said

-- ---- maps

-- what may be wrong with the keys of a map behind some pairs of it, with the value behind a key, and with the map's end
pub record MapRules : Type 1 where
  pub key : Pairs → Faults
  pub value : Value → Faults
  pub end : Pairs → Faults

-- what may be wrong with so many pairs and the end of the map, behind the pairs in front
abbrev pub PairsFault : MapRules → Pairs → ℕ → Faults
PairsFault rules front zero here f = rules.end front here f
PairsFault rules front (suc n) here f = Then (rules.key front) (λ key. Then (rules.value key) (λ v. PairsFault rules (front ++ (key, v) ∷ []) n)) here f

-- a value that must be a map: it is none, or its pairs break the rules
pub data MapFault (rules : MapRules) : Position → FormatFault → Type 0 where
  no_map : {here there : Position} {h : Head} → head_from here ≡ Ok (h, there) → map_len h ≡ None → MapFault rules here (fault_here kind.Wrong here)
  in_pairs : {here there : Position} {h : Head} {n : ℕ} {f : FormatFault} → head_from here ≡ Ok (h, there) → map_len h ≡ Some n → PairsFault rules [] n there f → MapFault rules here f

-- what may be wrong with some bytes that must be one value with these faults, and nothing behind it
pub data BytesFault (faults : Faults) (bytes : List ℕ) : FormatFault → Type 0 where
  in_value : {f : FormatFault} → WithBreaks faults (start_of bytes) f → BytesFault faults bytes f
  trailing : {v : Value} {there : Position} → Lies v (start_of bytes) there → 0 < length there.left → BytesFault faults bytes (fault_here kind.Trailing there)
