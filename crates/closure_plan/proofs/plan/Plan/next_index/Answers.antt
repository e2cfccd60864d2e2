use Rattle.std.proofs.Common.{◌∙◌, ◌<◌, sym, subst}
use Rattle.closure_plan.specs.Needs.{the_index}
use Rattle.closure_plan.specs.Plan.{may_ask}
use Rattle.closure_plan.proofs.LoopLemmas.{find_passed, find_stops}
use Rattle.closure_plan.specs.declared.need.Need.TheVariants as need
use Rattle.closure_plan.proofs.AskLemmas.{can_mark}
use Rattle.closure_plan.proofs.plan.Plan.next_index.Goals as goal

pub returns-then-may_ask_index-clause-find : goal.returns-then-may_ask_index-clause-find
returns-then-may_ask_index-clause-find g c =
    sym (find_stops (may_ask g.P.PinHolder.contents g.H.LeafHolder.contents c.args.self.now) (λ s. the_index s) c.loop-slot.slot _ (subst (λ n. c.loop-slot.slot < n) c.slots-slot-end.ensures.count c.loop-slot-test.true) (sym c.may_ask_index.ensures ∙ c.if-may_ask_index.true))
    ∙ c.loop-slot.invariant

pub loop-slot-preserved : goal.loop-slot-preserved
loop-slot-preserved g c =
    sym (find_passed (may_ask g.P.PinHolder.contents g.H.LeafHolder.contents c.args.self.now) (λ s. the_index s) c.loop-slot.slot _ (subst (λ n. c.loop-slot.slot < n) c.slots-slot-end.ensures.count c.loop-slot-test.true) (sym c.may_ask_index.ensures ∙ c.if-may_ask_index.false))
    ∙ c.loop-slot.invariant

pub returns-then-may_ask_index-clause-fit : goal.returns-then-may_ask_index-clause-fit
returns-then-may_ask_index-clause-fit g c = can_mark g.P.PinHolder.contents g.H.LeafHolder.contents c.args.self.now (need.Index c.loop-slot.slot) (subst (λ n. c.loop-slot.slot < n) c.slots-slot-end.ensures.count c.loop-slot-test.true) (sym c.may_ask_index.ensures ∙ c.if-may_ask_index.true)
