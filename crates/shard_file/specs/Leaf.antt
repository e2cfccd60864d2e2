-- What contracts see of a refused leaf.
use Rattle.std.specs.Prelude.{List, ℕ, Option, Some, None}
use Rattle.mp_codec.specs.declared.fault.FormatFault.{FormatFault}
use Rattle.shard_file.specs.declared.leaf.LeafRefusal.{LeafRefusal}
use Rattle.shard_file.specs.declared.leaf.LeafRefusal.TheVariants as refusal

-- the fault of a refusal, unless memory ran out
abbrev pub leaf_fault_of : LeafRefusal → Option FormatFault
leaf_fault_of (refusal.Fault f body) = Some f
leaf_fault_of (refusal.Memory body) = None

-- the bytes of the body that a refusal hands back, which have its digest
abbrev pub body_back : LeafRefusal → List ℕ
body_back (refusal.Fault f body) = body
body_back (refusal.Memory body) = body
