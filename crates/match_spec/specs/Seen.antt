-- What the code's passages, keys, tests and parts of a bracket stand for. No public clause cites it.
use Rattle.std.specs.Prelude.{Option, Some, None, Result, Ok, Err}
use Rattle.match_spec.specs.Bracket.{Entry, Halves, Value, bare, quoted, unclosed}
use Rattle.match_spec.specs.Comparison.{Comparison}
use Rattle.match_spec.specs.Comparison as comparison
use Rattle.match_spec.specs.Key.{Key}
use Rattle.match_spec.specs.Key as key
use Rattle.match_spec.specs.Number.{NumberTest}
use Rattle.match_spec.specs.Passage.{Passage}
use Rattle.match_spec.specs.declared.bracket.Halves.{Halves as HeldHalves}
use Rattle.match_spec.specs.declared.entry.Entry.{Entry as HeldEntry}
use Rattle.match_spec.specs.declared.entry.Value.{Value as HeldValue}
use Rattle.match_spec.specs.declared.entry.Value.TheVariants as held
use Rattle.match_spec.specs.declared.fault.SpecFault.{SpecFault}
use Rattle.match_spec.specs.declared.key.Key.{Key as HeldKey}
use Rattle.match_spec.specs.declared.key.Key.TheVariants as held_key
use Rattle.match_spec.specs.declared.number.Comparison.{Comparison as HeldComparison}
use Rattle.match_spec.specs.declared.number.Comparison.TheVariants as compared
use Rattle.match_spec.specs.declared.number.NumberTest.{NumberTest as HeldTest}
use Rattle.match_spec.specs.declared.passage.Passage.{Passage as Held}

-- the passage that the code holds
abbrev pub passage_in : Held → Passage
passage_in p = record { at = p.at; text = p.text.now }

-- the passage, where the code holds one
abbrev pub passage_there : Option Held → Option Passage
passage_there None = None
passage_there (Some p) = Some (passage_in p)

-- the key that the code holds
abbrev pub key_in : HeldKey → Key
key_in held_key.Version = key.version
key_in held_key.Build = key.build
key_in held_key.BuildNumber = key.build_number
key_in held_key.Channel = key.channel
key_in held_key.Subdir = key.subdir
key_in held_key.Md5 = key.md5
key_in held_key.Sha256 = key.sha256
key_in held_key.File = key.file

-- the key that was found, if one was
abbrev pub key_there : Option HeldKey → Option Key
key_there None = None
key_there (Some k) = Some (key_in k)

-- the key that was found, or a fault
abbrev pub key_read : Result HeldKey SpecFault → Result Key SpecFault
key_read (Ok k) = Ok (key_in k)
key_read (Err f) = Err f

-- the comparison that the code holds
abbrev pub comparison_in : HeldComparison → Comparison
comparison_in compared.Equal = comparison.equal
comparison_in compared.NotEqual = comparison.not_equal
comparison_in compared.Less = comparison.less
comparison_in compared.AtMost = comparison.at_most
comparison_in compared.Greater = comparison.greater
comparison_in compared.AtLeast = comparison.at_least

-- the comparison that was found, if one was
abbrev pub comparison_there : Option HeldComparison → Option Comparison
comparison_there None = None
comparison_there (Some c) = Some (comparison_in c)

-- the test of build numbers that the code holds
abbrev pub test_in : HeldTest → NumberTest
test_in t = record { comparison = comparison_in t.comparison; number = t.number }

-- the test, where the code holds one
abbrev pub test_there : Option HeldTest → Option NumberTest
test_there None = None
test_there (Some t) = Some (test_in t)

-- the test that was read, or a fault
abbrev pub test_read : Result HeldTest SpecFault → Result NumberTest SpecFault
test_read (Ok t) = Ok (test_in t)
test_read (Err f) = Err f

-- the value that the code holds
abbrev pub value_in : HeldValue → Value
value_in (held.Bare p) = bare (passage_in p)
value_in (held.Quoted at p tail) = quoted at (passage_in p) (passage_in tail)
value_in (held.Unclosed at) = unclosed at

-- the value, where the code holds one
abbrev pub value_there : Option HeldValue → Option Value
value_there None = None
value_there (Some v) = Some (value_in v)

-- the part of a bracket that the code holds
abbrev pub entry_in : HeldEntry → Entry
entry_in e = record { key = passage_in e.key; value = value_there e.value; rest = passage_there e.rest }

-- the halves of a spec that the code holds
abbrev pub halves_in : HeldHalves → Halves
halves_in h = record { outside = passage_in h.outside; inside = passage_there h.inside }

-- the halves that were cut out
abbrev pub halves_seen : Result HeldHalves SpecFault → Result Halves SpecFault
halves_seen (Ok h) = Ok (halves_in h)
halves_seen (Err f) = Err f
