use Rattle.std.proofs.Common.{◌≡◌, ◌++◌, ℕ, ◌<◌, take, slice_index_or}
use Rattle.std.specs.List.{flat_map}
use Rattle.shard_index.specs.Index.{Listed}
use Rattle.shard_index.specs.Writing.{entry_bytes, IsEntry}
use Rattle.shard_index.proofs.writing.put_entries.Given as goal

abbrev pub invariant-loop-row : goal.invariant-loop-row
invariant-loop-row l = record {
  written : l.out.items ≡ l.initial.out.items ++ flat_map entry_bytes (take l.row-index l.rows);
  entries : (k : ℕ) (d : Listed) → k < l.row-index → IsEntry (slice_index_or l.rows k d);
}
