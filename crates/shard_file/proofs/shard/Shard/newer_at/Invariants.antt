use Rattle.std.proofs.Common.{◌≡◌, ℕ, ◌<◌, ◌++◌, false}
use Rattle.std.specs.List.{slice_get}
use Rattle.shard_file.specs.Twin.{is_newer, newer_ending, row_passes}
use Rattle.shard_file.proofs.shard.Shard.newer_at.Given as goal

abbrev pub invariant-loop-i : goal.invariant-loop-i
invariant-loop-i l = (k : ℕ) → k < l.i → row_passes (is_newer (l.stem ++ newer_ending) l.name) (slice_get l.self.rows k) ≡ false
