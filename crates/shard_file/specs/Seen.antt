-- What contracts see of a row that is lent, and of a refusal.
use Rattle.std.specs.Prelude.{List, ℕ, Option, Some, None}
use Rattle.mp_codec.specs.declared.fault.FormatFault.{FormatFault}
use Rattle.conda_record.specs.View.{seen}
use Rattle.shard_file.specs.declared.refusal.ShardRefusal.{ShardRefusal}
use Rattle.shard_file.specs.declared.refusal.ShardRefusal.TheVariants as refusal
use Rattle.shard_file.specs.declared.shard.ShardRow.{ShardRow}
use Rattle.shard_file.specs.Rows.{Row}

-- the row that is lent
abbrev pub row_seen : ShardRow → Row
row_seen r = record { file = r.file.now; conda = r.conda; fields = seen r.view }

-- the fault of a refusal, unless memory ran out
abbrev pub fault_of : ShardRefusal → Option FormatFault
fault_of (refusal.Fault f bytes) = Some f
fault_of (refusal.Memory bytes) = None

-- the bytes that a refusal hands back
abbrev pub bytes_back : ShardRefusal → List ℕ
bytes_back (refusal.Fault f bytes) = bytes.items
bytes_back (refusal.Memory bytes) = bytes.items
