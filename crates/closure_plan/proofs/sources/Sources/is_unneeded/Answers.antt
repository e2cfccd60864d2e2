use Rattle.std.proofs.Common.{◌∙◌, ◌<◌, not, sym, ap, subst}
use Rattle.std.specs.Prelude.{is_some}
use Rattle.closure_plan.specs.Given.{wanted}
use Rattle.closure_plan.specs.Plan.{pins_of}
use Rattle.closure_plan.proofs.LoopLemmas.{all_passed}
use Rattle.closure_plan.proofs.sources.Sources.is_unneeded.Goals as goal

pub loop-slot-preserved : goal.loop-slot-preserved
loop-slot-preserved g c =
    sym (all_passed (λ s. not (is_some (wanted c.args.self.now.request (pins_of g.P.PinHolder.contents c.args.self.now.pins) s c.args.name.now))) c.loop-slot.slot _ (subst (λ n. c.loop-slot.slot < n) c.slots-slot-end.ensures.count c.loop-slot-test.true)
    (ap not (ap is_some (sym c.wanted.ensures) ∙ sym c.is_some.ensures ∙ c.if-is_some.false)))
    ∙ c.loop-slot.invariant
