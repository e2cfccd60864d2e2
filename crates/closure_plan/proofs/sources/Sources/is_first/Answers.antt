use Rattle.std.proofs.Common.{◌∙◌, ◌<◌, sym, subst}
use Rattle.closure_plan.specs.Given.{lets}
use Rattle.closure_plan.specs.Plan.{pins_of}
use Rattle.closure_plan.proofs.LoopLemmas.{all_passed}
use Rattle.closure_plan.proofs.sources.Sources.is_first.Goals as goal

pub loop-t-preserved : goal.loop-t-preserved
loop-t-preserved g c =
    sym (all_passed (lets c.args.self.now.request (pins_of g.P.PinHolder.contents c.args.self.now.pins) c.args.slot c.args.name.now) c.loop-t.t _ (subst (λ n. c.loop-t.t < n) c.slots-t-end.ensures.count c.loop-t-test.true) (sym c.lets.ensures ∙ c.if-not-lets.false))
    ∙ c.loop-t.invariant
