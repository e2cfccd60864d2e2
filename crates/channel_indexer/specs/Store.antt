-- Answers that the stored bytes decide, and those of a store that failed.
use Rattle.std.specs.Prelude.{Option, Some, None}
use Rattle.channel_store.specs.declared.store.StoreRefusal.{StoreRefusal}
use Rattle.channel_store.specs.declared.store.StoreRefusal.TheVariants as refusal
use Rattle.channel_indexer.specs.declared.fault.IndexFault.{IndexFault}
use Rattle.channel_indexer.specs.declared.fault.IndexFault.TheVariants as fault

-- the fault of an answer that is told by the stored bytes; it is none where the store failed or memory ran out
abbrev pub stored_fault : IndexFault → Option IndexFault
stored_fault fault.StoreFault = None
stored_fault fault.Memory = None
stored_fault fault.NoFile = Some fault.NoFile
stored_fault fault.Json = Some fault.Json
stored_fault (fault.Fields file) = Some (fault.Fields file)
stored_fault (fault.TooLong what) = Some (fault.TooLong what)

-- the answer to a refusal of the store
abbrev pub fault_of_store : StoreRefusal → IndexFault
fault_of_store refusal.Failed = fault.StoreFault
fault_of_store refusal.Memory = fault.Memory
