use Rattle.std.proofs.Common.{sym, subst}
use Rattle.std.specs.List.{All}
use Rattle.std.proofs.lemmas.List.Elements.{All-from_recursion}
use Rattle.closure_plan.specs.Plan.{Known, its_leaves, leaves_of}
use Rattle.closure_plan.specs.Rows.{IsThere}
use Rattle.closure_plan.proofs.plan.Plan.finish.Goals as goal

pub invariant_of-result : goal.invariant_of-result
invariant_of-result g c =
    subst (λ (k : Known _ _). All (IsThere (leaves_of g.H.LeafHolder.contents k.leaves)) c.in_ok-rows.rows.items) (sym c.into_part.ensures)
    (All-from_recursion (IsThere (its_leaves g.P.PinHolder.contents g.H.LeafHolder.contents c.args.self.known)) c.in_ok-rows.rows.items (c.in_ok-rows.ensures.there tt))
