use Rattle.std.proofs.Common.{◌∙◌, ◌<◌, sym, subst}
use Rattle.std.specs.Prelude.{is_some}
use Rattle.closure_plan.specs.Given.{wanted}
use Rattle.closure_plan.specs.Needs.{is_given, the_shard}
use Rattle.closure_plan.specs.Plan.{its_pins, its_leaves, name_at}
use Rattle.closure_plan.proofs.LoopLemmas.{some_all_passed}
use Rattle.closure_plan.proofs.plan.Plan.has_each.Goals as goal

pub loop-slot-preserved : goal.loop-slot-preserved
loop-slot-preserved g c =
    let now = c.args.self.now in
    let name = name_at now.known.names c.args.n in
    sym (some_all_passed (is_given (its_pins g.P.PinHolder.contents g.H.LeafHolder.contents now.known) (its_leaves g.P.PinHolder.contents g.H.LeafHolder.contents now.known)) (λ s. is_some (wanted now.known.request (its_pins g.P.PinHolder.contents g.H.LeafHolder.contents now.known) s name)) (λ s. the_shard s name) c.loop-slot.slot _ (subst (λ n. c.loop-slot.slot < n) c.slots-slot-end.ensures.count c.loop-slot-test.true) (sym c.lacks.ensures ∙ c.if-lacks.false))
    ∙ c.loop-slot.invariant
