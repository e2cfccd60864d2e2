-- What contracts see of a refused index.
use Rattle.std.specs.Prelude.{Option, Some, None}
use Rattle.mp_codec.specs.declared.fault.FormatFault.{FormatFault}
use Rattle.shard_index.specs.declared.refusal.IndexRefusal.{IndexRefusal}
use Rattle.shard_index.specs.declared.refusal.IndexRefusal.TheVariants as refusal

-- the fault of a refusal, unless memory ran out
abbrev pub fault_of : IndexRefusal → Option FormatFault
fault_of (refusal.Fault f) = Some f
fault_of refusal.Memory = None
