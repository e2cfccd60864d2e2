use Rattle.std.proofs.Common.{◌≡◌, ◌∷◌, true, length, arith, ap, ◌∙◌}
use Rattle.shard_cache.specs.Recency.{Listing, is_listed}
use Rattle.shard_cache.specs.Linked.{order_of}
use Rattle.shard_cache.proofs.LinkLemmas.{row_within}
use Rattle.shard_cache.proofs.CountLemmas.{counted_moved, row_apart, unlisted_without}
use Rattle.shard_cache.proofs.recency.Recency.touch.Goals as goal

-- src/recency.rt:79:9
pub put_first-requires-clause-unlisted : goal.put_first-requires-clause-unlisted
put_first-requires-clause-unlisted c = ap (is_listed c.args.row) c.unlink-same_size.ensures.order ∙ unlisted_without c.args.row (order_of c.self.inside.links)

-- src/recency.rt:79:9
pub put_first-requires-clause-below : goal.put_first-requires-clause-below
put_first-requires-clause-below c =
    let listed : is_listed c.args.row (order_of c.self.inside.links) ≡ true = ap (λ (l : Listing). is_listed c.args.row l.order) c.self.view_is ∙ c.requires in
    let within = row_within c.self.inside.links c.args.row c.self.invariant.sound listed in
    omega (arith, within, c.unlink-same_size.ensures.rows, c.self.inside.links.nodes.ok)

-- src/recency.rt:79:9
pub put_first-requires-clause-room : goal.put_first-requires-clause-room
put_first-requires-clause-room c = let apart = row_apart c.args.row c.unlink-same_size.result (order_of c.self.inside.links) c.unlink-same_size.ensures.size in
    let count = ap length c.unlink-same_size.ensures.order in
    let fit = c.self.invariant.sound.fit in
    omega (arith, apart.1, count, fit, c.unlink-same_size.ensures.rows, c.self.inside.links.nodes.ok)

-- src/recency.rt:72:5
pub invariant_of-self : goal.invariant_of-self
invariant_of-self c = counted_moved c.self.inside.links c.put_first.new.self c.args.row c.unlink-same_size.result c.self.inside.listed c.self.inside.total c.self.invariant c.put_first.ensures.sound (c.put_first.ensures.order ∙ ap (λ l. (c.args.row, c.unlink-same_size.result) ∷ l) c.unlink-same_size.ensures.order) c.unlink-same_size.ensures.size
