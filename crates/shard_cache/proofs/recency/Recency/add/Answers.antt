use Rattle.std.proofs.Common.{◌<◌, ◌^◌, length, arith}
use Rattle.shard_cache.specs.Linked.{order_of}
use Rattle.shard_cache.proofs.CountLemmas.{sum_fits}
use Rattle.shard_cache.proofs.recency.Recency.add.Goals as goal

-- src/recency.rt:68:9
pub overflow_add-self-2 : goal.overflow_add-self-2
overflow_add-self-2 c =
    let few : length (order_of c.self.inside.links) < 2 ^ 64 = grind (arith, c.self.invariant.listed, c.self.ranges) in
    record { fits = sum_fits c.self.inside.links c.args.size c.self.inside.listed c.self.inside.total c.self.invariant few c.ranges.size.fits }
