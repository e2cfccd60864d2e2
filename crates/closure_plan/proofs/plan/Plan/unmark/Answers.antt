use Rattle.std.proofs.Common.{◌≡◌, refl, rules}
use Rattle.std.proofs.lemmas.Fn.{filter_same}
use Rattle.closure_plan.specs.Plan.{without}
use Rattle.closure_plan.proofs.KeepLemmas.{holds_unmarked}
use Rattle.closure_plan.proofs.plan.Plan.unmark.Goals as goal

pub invariant_of-self : goal.invariant_of-self
invariant_of-self g c =
    let inside = c.self.inside in
    let left : c.retain.new.self.items ≡ without c.args.need inside.marks.items = filter_same _ _ _ (λ x b f' k. search rules) _ _ c.retain.ensures.filtered in
    (rw (left, c.retain.ensures.capacity) (holds_unmarked g.P.PinHolder.contents g.H.LeafHolder.contents _ _ _ c.self.invariant.0 c.args.need), c.self.invariant.1, c.self.invariant.2)

pub returns : goal.returns
returns g c =
    let inside = c.self.inside in
    let left : c.retain.new.self.items ≡ without c.args.need inside.marks.items = filter_same _ _ _ (λ x b f' k. search rules) _ _ c.retain.ensures.filtered in
    rw (left, ← c.self.view_is) refl
