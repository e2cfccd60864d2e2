use Rattle.std.proofs.Common.{ℕ, ◌<◌}
use Rattle.std.specs.Prelude.{slice_index_or}
use Rattle.shard_file.specs.Rows.{Row}
use Rattle.shard_file.specs.Writing.{IsWritableRow}
use Rattle.shard_file.proofs.writing.is_each_writable.Given as goal

abbrev pub invariant-loop-file : goal.invariant-loop-file
invariant-loop-file l = (k : ℕ) (d : Row) → k < l.file-index → IsWritableRow (slice_index_or l.files k d)
