use Rattle.std.proofs.Common.{◌≡◌, []}
use Rattle.shard_cache.specs.Recency.{listing}
use Rattle.shard_cache.proofs.tests.with_rows.Given as goal

abbrev pub invariant-loop : goal.invariant-loop
invariant-loop l = l.recency ≡ listing [] l.counter l.budget
