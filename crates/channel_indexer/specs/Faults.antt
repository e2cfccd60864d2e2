-- The numbers of the faults of an indexing (docs/FORMATS.md, "repodata.json").
use Rattle.std.specs.Prelude.{ℕ, Option, Some, None}
use Rattle.channel_indexer.specs.declared.fault.IndexFault.{IndexFault}
use Rattle.channel_indexer.specs.declared.fault.IndexFault.TheVariants as fault

-- the number of a fault; want of memory is none
abbrev pub number_of : IndexFault → Option ℕ
number_of fault.NoFile = Some 1
number_of fault.Json = Some 2
number_of (fault.Fields file) = Some 3
number_of fault.StoreFault = Some 4
number_of (fault.TooLong what) = Some 5
number_of fault.Memory = None
