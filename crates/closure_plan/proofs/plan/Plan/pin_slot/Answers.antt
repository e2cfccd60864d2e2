use Rattle.std.proofs.Common.{◌≡◌, ◌∙◌, ap, refl, rules}
use Rattle.std.proofs.lemmas.Fn.{filter_same}
use Rattle.closure_plan.specs.declared.need.Need.TheVariants as need
use Rattle.closure_plan.specs.Plan.{Planned, has_need, without}
use Rattle.closure_plan.proofs.KeepLemmas.{marked_need, marked_open, holds_pinned, none_of_some}
use Rattle.closure_plan.proofs.OwingLemmas.{owing_each}
use Rattle.closure_plan.proofs.plan.Plan.pin_slot.Goals as goal

pub pin-requires : goal.pin-requires
pin-requires g c =
    let marked = ap (λ (s : Planned _ _). has_need s.marked (need.Index c.args.slot)) c.self.view_is ∙ c.requires in
    marked_need g.P.PinHolder.contents g.H.LeafHolder.contents _ _ _ c.self.invariant.0 (need.Index c.args.slot) marked

pub invariant_of-self : goal.invariant_of-self
invariant_of-self g c =
    let marked = ap (λ (s : Planned _ _). has_need s.marked (need.Index c.args.slot)) c.self.view_is ∙ c.requires in
    let left : c.retain.new.self.items ≡ without (need.Index c.args.slot) c.self.inside.marks.items = filter_same _ _ _ (λ x b f' k. search rules) _ _ c.retain.ensures.filtered in
    let none = none_of_some _ (marked_open g.P.PinHolder.contents g.H.LeafHolder.contents _ _ _ c.self.invariant.0 (need.Index c.args.slot) marked) in (
      rw (left, c.retain.ensures.capacity, c.pin.ensures) (holds_pinned g.P.PinHolder.contents g.H.LeafHolder.contents _ _ _ c.self.invariant.0 c.args.slot c.args.holder none),
      rw c.pin.ensures c.self.invariant.1,
      rw (c.in_ok-owing.ensures.items, c.deref.ensures.value) (owing_each _ _ c.self.inside.names.items _ c.self.inside.order.items c.self.invariant.0.order c.self.invariant.0.within),
    )

pub returns-clause-ok : goal.returns-clause-ok
returns-clause-ok g c =
    let left : c.retain.new.self.items ≡ without (need.Index c.args.slot) c.self.inside.marks.items = filter_same _ _ _ (λ x b f' k. search rules) _ _ c.retain.ensures.filtered in
    rw (left, c.pin.ensures, ← c.self.view_is) refl
