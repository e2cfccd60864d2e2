use Rattle.std.proofs.Common.{◌≡◌, ◌∙◌, ◌≤◌, ap, subst, length, map, flat_map, arith, List, ℕ}
use Rattle.std.proofs.lemmas.List.{take_all}
use Rattle.closure_plan.specs.Names.{Name}
use Rattle.closure_plan.specs.Closure.{Found, found, reach}
use Rattle.closure_plan.specs.Given.{given}
use Rattle.closure_plan.specs.Rows.{Adds}
use Rattle.closure_plan.specs.Plan.{Planned, its_pins, its_leaves, name_at}
use Rattle.closure_plan.proofs.LoopLemmas.{through}
use Rattle.closure_plan.proofs.KeepLemmas.{order_reached}
use Rattle.closure_plan.proofs.plan.Plan.rows_in.Goals as goal

pub returns : goal.returns
returns g c =
    let now = c.args.self.now in
    let order : List ℕ = c.self.inside.order.items in
    let r = now.known.request in
    let leaves = its_leaves g.P.PinHolder.contents g.H.LeafHolder.contents now.known in
    let rows : Name → List Found = λ n. map (found r c.args.slot) (given r (its_pins g.P.PinHolder.contents g.H.LeafHolder.contents now.known) leaves c.args.slot n) in
    let end : length order ≤ c.loop-i.i = let a = c.loop-i-test.false in let b = c.len-i-end.ensures in let o = c.self.inside.order.ok.0 in omega (arith, a, b, o) in
    let is : map (name_at now.known.names) order ≡ reach r (its_pins g.P.PinHolder.contents g.H.LeafHolder.contents now.known) leaves
    = subst (λ (s : Planned _ _). map (name_at s.known.names) order ≡ reach s.known.request (its_pins g.P.PinHolder.contents g.H.LeafHolder.contents s.known) (its_leaves g.P.PinHolder.contents g.H.LeafHolder.contents s.known)) c.self.view_is (order_reached g.P.PinHolder.contents g.H.LeafHolder.contents _ _ _ c.self.invariant.0) in
    subst (Adds r leaves c.args.rows.now.items c.loop-i.rows.items)
    (ap (λ ks. flat_map (λ k. rows (name_at now.known.names k)) ks) (take_all c.loop-i.i order end) ∙ through rows (name_at now.known.names) order ∙ ap (flat_map rows) is)
    c.loop-i.invariant
