-- Maps whose keys are names: different texts.
use Rattle.std.specs.Prelude.{◌≡◌, ◌⊎◌, Bool, true, ℕ, List, Ok, Err, if◌then◌else◌, Option, Some}
use Rattle.std.specs.Str.{is_utf8}
use Rattle.gateway_words.specs.Places.{Position}
use Rattle.gateway_words.specs.Reading.{◌>>=◌}
use Rattle.mp_codec.specs.declared.fault.FormatFault.{FormatFault}
use Rattle.mp_codec.specs.declared.fault.FaultKind.TheVariants as kind
use Rattle.mp_codec.specs.Value.{Value, Pairs, str_of}
use Rattle.mp_codec.specs.Spelling.{Lies}
use Rattle.mp_codec.specs.Fault.{Faults, MapRules, TextFault, fault_here, no_fault}
use Rattle.mp_codec.specs.Keys.{has_key}
use Rattle.mp_codec.specs.Maps.{Read, text_from}

-- a name, which is text, that stands in front already
pub data RepeatedName (front : Pairs) : Position → FormatFault → Type 0 where
  again : {here there : Position} {key : Value} {name : List ℕ} → Lies key here there → str_of key ≡ Some name → is_utf8 name ≡ true
      → has_key name front ≡ true → RepeatedName front here (fault_here kind.Repeated here)

-- a map has different texts for keys, and values of which these are the faults
abbrev pub names_rules : Faults → MapRules
names_rules faults = record {
  key = λ front here f. TextFault here f ⊎ RepeatedName front here f;
  value = λ key. faults;
  end = λ front. no_fault;
}

-- the text that stands here, which is none of the names that were met
unfoldable pub new_name_from : (List ℕ → Bool) → Position → Read (List ℕ)
new_name_from met here = text_from here >>= λ t. if met t.0 then Err (fault_here kind.Repeated here) else Ok (t.0, t.1)
