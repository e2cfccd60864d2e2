use Rattle.std.proofs.Common.{◌≡◌, ◌∙◌, ◌<◌, length, sym, subst, true, List, ℕ, rules}
use Rattle.closure_plan.specs.Plan.{Planned, its_pins, its_leaves, leaves_of, pins_of, name_at}
use Rattle.closure_plan.specs.Owing.{has_all}
use Rattle.closure_plan.proofs.OwingLemmas.{owing_less}
use Rattle.closure_plan.proofs.plan.Plan.close_at.Goals as goal

pub has_each-requires : goal.has_each-requires
has_each-requires g c =
    let owing : List ℕ = c.self.inside.owing.items in
    let below : c.args.i < length owing = search rules in
    subst (λ (s : Planned _ _). c.index-n.result.now < length s.known.names) c.self.view_is (subst (λ k. k < length c.self.inside.names.items) (sym c.index-n.ensures) (c.self.invariant.2.within c.args.i c.index-n.result.now below))

pub invariant_of-self : goal.invariant_of-self
invariant_of-self g c =
    let inside = c.self.inside in
    let names : List (List ℕ) = inside.names.items in
    let pins = pins_of g.P.PinHolder.contents inside.sources.pins in
    let leaves = leaves_of g.H.LeafHolder.contents inside.leaves.items in
    let n : ℕ = c.index-n.result.now in
    let each : has_all inside.sources.request pins leaves (name_at names n) ≡ true
    = subst (λ (s : Planned _ _). has_all s.known.request (its_pins g.P.PinHolder.contents g.H.LeafHolder.contents s.known) (its_leaves g.P.PinHolder.contents g.H.LeafHolder.contents s.known) (name_at s.known.names n) ≡ true) (sym c.self.view_is) (sym c.has_each.ensures ∙ c.if-has_each.true) in
    let here = subst (λ (k : ℕ). has_all inside.sources.request pins leaves (name_at names k) ≡ true) c.index-n.ensures each in
    (c.self.invariant.0, c.self.invariant.1, rw c.remove.ensures.items (owing_less inside.sources.request pins names leaves inside.owing.items c.self.invariant.2 c.args.i n here))
