use Rattle.std.proofs.Common.{None, subst, sym}
use Rattle.shard_cache.specs.Recency.{Listing, AreBelow}
use Rattle.shard_cache.specs.Linked.{order_of}
use Rattle.shard_cache.proofs.CountLemmas.{rows_below}
use Rattle.shard_cache.proofs.recency.Recency.tell.Goals as goal

-- src/recency.rt:128:5
pub returns-clause-below : goal.returns-clause-below
returns-clause-below c =
    let links = c.self.inside.links in
    subst (λ (l : Listing). AreBelow l.rows l.order) c.self.view_is (subst (λ n. AreBelow n (order_of links)) (sym links.nodes.ok.0) (rows_below links.nodes.items None (order_of links) None c.self.invariant.sound.leads))
