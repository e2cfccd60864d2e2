-- What a blank in front of a spec changes: the places of faults, and nothing else (docs/FORMATS.md, "Specs").
use Rattle.std.specs.Prelude.{◌+◌, Ok, Err}
use Rattle.match_spec.specs.Parts.{Meaning}
use Rattle.match_spec.specs.Reading.{Read}
use Rattle.match_spec.specs.declared.fault.SpecFault.{SpecFault}
use Rattle.match_spec.specs.declared.fault.SpecFault.TheVariants as fault

-- the fault of a spec whose text stands one byte further on
abbrev pub moved_fault : SpecFault → SpecFault
moved_fault fault.Empty = fault.Empty
moved_fault fault.NoName = fault.NoName
moved_fault (fault.Name at) = fault.Name (at + 1)
moved_fault (fault.Version at) = fault.Version (at + 1)
moved_fault (fault.Build at) = fault.Build (at + 1)
moved_fault (fault.Bracket at) = fault.Bracket (at + 1)
moved_fault (fault.Key at) = fault.Key (at + 1)
moved_fault (fault.Value at) = fault.Value (at + 1)

-- what is read of a spec's text that stands one byte further on
abbrev pub moved : Read Meaning → Read Meaning
moved (Ok spec) = Ok spec
moved (Err f) = Err (moved_fault f)
