use Rattle.std.proofs.Common.{◌≡◌, ◌+◌, false, length, arith}
use Rattle.shard_cache.specs.Recency.{AreBelow}
use Rattle.shard_cache.proofs.OrderLemmas.{unlisted_above, below_more}
use Rattle.shard_cache.proofs.tests.with_listed.Goals as goal

-- src/tests.rt:68:9
pub add-requires-clause-unlisted : goal.add-requires-clause-unlisted
add-requires-clause-unlisted c = unlisted_above _ _ c.loop-row.invariant.0

-- src/tests.rt:64:5
pub loop-row-preserved : goal.loop-row-preserved
loop-row-preserved c =
    let kept = c.loop-row.invariant in
    let count = kept.1 in
    rw c.add.ensures ((omega arith, below_more c.loop-row.row c.loop-row.recency.order kept.0), omega (arith, count), kept.2)
