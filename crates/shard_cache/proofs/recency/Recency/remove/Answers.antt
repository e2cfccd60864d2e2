use Rattle.shard_cache.proofs.CountLemmas.{counted_without}
use Rattle.shard_cache.proofs.recency.Recency.remove.Goals as goal

-- src/recency.rt:89:9
pub overflow_sub-self-2 : goal.overflow_sub-self-2
overflow_sub-self-2 c = (counted_without c.self.inside.links c.unlink-size.new.self c.args.row c.unlink-size.result c.self.inside.listed c.self.inside.total c.self.invariant c.unlink-size.ensures.sound c.unlink-size.ensures.order c.unlink-size.ensures.size).1

-- src/recency.rt:83:5
pub invariant_of-self : goal.invariant_of-self
invariant_of-self c = (counted_without c.self.inside.links c.unlink-size.new.self c.args.row c.unlink-size.result c.self.inside.listed c.self.inside.total c.self.invariant c.unlink-size.ensures.sound c.unlink-size.ensures.order c.unlink-size.ensures.size).0
