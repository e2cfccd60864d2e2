use Rattle.std.proofs.Common.{◌≡◌, ℕ, ◌+◌, ◌<◌}
use Rattle.std.specs.Prelude.{slice_index_or}
use Rattle.std.specs.declared.cmp.Ordering.TheVariants.{Less}
use Rattle.shard_file.specs.Rows.{Row}
use Rattle.shard_file.specs.Writing.{row_cmp}
use Rattle.shard_file.proofs.writing.are_ascending.Given as goal

abbrev pub invariant-loop-i : goal.invariant-loop-i
invariant-loop-i l = (k : ℕ) (d : Row) → k + 1 < l.i → row_cmp (slice_index_or l.files k d) (slice_index_or l.files (k + 1) d) ≡ Less
