-- What a blank in front of a text changes: the places of faults, and nothing else.
use Rattle.std.specs.Prelude.{◌+◌, Result, Ok, Err}
use Rattle.conda_version.specs.Version.{Value}
use Rattle.conda_version.specs.declared.fault.VersionFault.{VersionFault}
use Rattle.conda_version.specs.declared.fault.VersionFault.TheVariants as fault

-- the fault of a version whose text stands one byte further on
abbrev pub moved_fault : VersionFault → VersionFault
moved_fault fault.Empty = fault.Empty
moved_fault (fault.Char at) = fault.Char (at + 1)
moved_fault fault.EmptyPart = fault.EmptyPart
moved_fault fault.Epoch = fault.Epoch
moved_fault fault.Wide = fault.Wide
moved_fault fault.Twice = fault.Twice

-- what is read of a version's text that stands one byte further on
abbrev pub moved : Result Value VersionFault → Result Value VersionFault
moved (Ok v) = Ok v
moved (Err f) = Err (moved_fault f)
