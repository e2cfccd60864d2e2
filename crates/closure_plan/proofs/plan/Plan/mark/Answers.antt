use Rattle.std.proofs.Common.{◌∙◌, sym, ap, subst, arith}
use Rattle.closure_plan.specs.Plan.{Planned, IsNeed, its_pins, has_given, has_need}
use Rattle.closure_plan.proofs.KeepLemmas.{holds_marked, room_to_mark}
use Rattle.closure_plan.proofs.plan.Plan.mark.Goals as goal

pub push_reserved-requires : goal.push_reserved-requires
push_reserved-requires g c =
    let needed = subst (λ (s : Planned _ _). IsNeed s.known.request (its_pins g.P.PinHolder.contents g.H.LeafHolder.contents s.known) s.known.names c.args.need) (sym c.self.view_is) c.requires.needed in
    let unmarked = ap (λ (s : Planned _ _). has_need s.marked c.args.need) c.self.view_is ∙ c.requires.unmarked in
    let len = c.self.inside.marks.ok.0 in
    let less = room_to_mark g.P.PinHolder.contents g.H.LeafHolder.contents _ _ _ c.self.invariant.0 c.args.need needed unmarked in
    omega (arith, len, less)

pub invariant_of-self : goal.invariant_of-self
invariant_of-self g c =
    let needed = subst (λ (s : Planned _ _). IsNeed s.known.request (its_pins g.P.PinHolder.contents g.H.LeafHolder.contents s.known) s.known.names c.args.need) (sym c.self.view_is) c.requires.needed in
    let unmarked = ap (λ (s : Planned _ _). has_need s.marked c.args.need) c.self.view_is ∙ c.requires.unmarked in
    let open_yet = ap (λ (s : Planned _ _). has_given g.P.PinHolder.contents g.H.LeafHolder.contents s.known c.args.need) c.self.view_is ∙ c.requires.not_given in
    (rw (c.push_reserved.ensures.items, c.push_reserved.ensures.capacity) (holds_marked g.P.PinHolder.contents g.H.LeafHolder.contents _ _ _ c.self.invariant.0 c.args.need needed unmarked open_yet), c.self.invariant.1, c.self.invariant.2)
