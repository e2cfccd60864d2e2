use Rattle.std.proofs.Common.{◌≡◌, length}
use Rattle.shard_cache.specs.Recency.{AreBelow}
use Rattle.shard_cache.proofs.tests.with_listed.Given as goal

-- the rows so far are listed
abbrev pub invariant-loop-row : goal.invariant-loop-row
invariant-loop-row l = AreBelow l.row l.recency.order × (length l.recency.order ≡ l.row) × (l.recency.rows ≡ l.rows)
