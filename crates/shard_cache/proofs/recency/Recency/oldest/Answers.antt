use Rattle.std.proofs.Common.{◌≡◌, ◌∙◌, ap, sym, ℕ, List, Option, Some, None, true}
use Rattle.std.specs.Option.{IfSome}
use Rattle.shard_cache.specs.Recency.{Listing, oldest_of, is_listed}
use Rattle.shard_cache.specs.Linked.{order_of}
use Rattle.shard_cache.proofs.CountLemmas.{last_is_oldest}
use Rattle.shard_cache.proofs.OrderLemmas.{oldest_listed}
use Rattle.shard_cache.proofs.recency.Recency.oldest.Goals as goal

-- src/recency.rt:93:5
pub returns-clause-oldest : goal.returns-clause-oldest
returns-clause-oldest c = c.self.invariant.sound.oldest ∙ last_is_oldest (order_of c.self.inside.links) ∙ ap (λ (l : Listing). oldest_of l.order) c.self.view_is

-- src/recency.rt:93:5
pub returns-clause-listed : goal.returns-clause-listed
returns-clause-listed c = listed_if c.self.inside.links.oldest c.args.self.now.order (returns-clause-oldest c)
  where
    listed_if : (row : Option ℕ) (order : List (ℕ × ℕ)) → row ≡ oldest_of order → IfSome row (λ r. is_listed r order ≡ true)
    listed_if None order is = tt
    listed_if (Some row) order is = oldest_listed row order (sym is)
