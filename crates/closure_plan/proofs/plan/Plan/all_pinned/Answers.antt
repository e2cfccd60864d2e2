use Rattle.std.proofs.Common.{◌∙◌, ◌<◌, sym, subst}
use Rattle.closure_plan.specs.Needs.{is_given, the_index}
use Rattle.closure_plan.specs.Plan.{its_pins, its_leaves}
use Rattle.closure_plan.proofs.LoopLemmas.{map_passed}
use Rattle.closure_plan.proofs.plan.Plan.all_pinned.Goals as goal

pub loop-slot-preserved : goal.loop-slot-preserved
loop-slot-preserved g c =
    let now = c.args.self.now in
    sym (map_passed (is_given (its_pins g.P.PinHolder.contents g.H.LeafHolder.contents now.known) (its_leaves g.P.PinHolder.contents g.H.LeafHolder.contents now.known)) (λ s. the_index s) c.loop-slot.slot _ (subst (λ n. c.loop-slot.slot < n) c.slots-slot-end.ensures.count c.loop-slot-test.true) (sym c.is_pinned.ensures ∙ c.if-not-is_pinned.false))
    ∙ c.loop-slot.invariant
