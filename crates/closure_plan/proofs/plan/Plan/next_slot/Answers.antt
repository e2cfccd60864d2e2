use Rattle.std.proofs.Common.{◌∙◌, ◌<◌, sym, subst}
use Rattle.std.specs.Prelude.{is_some}
use Rattle.closure_plan.specs.Given.{wanted}
use Rattle.closure_plan.specs.Needs.{the_shard}
use Rattle.closure_plan.specs.Plan.{may_ask, its_pins, name_at}
use Rattle.closure_plan.proofs.LoopLemmas.{some_passed, some_stops}
use Rattle.closure_plan.specs.declared.need.Need.TheVariants as need
use Rattle.closure_plan.proofs.ArrivalLemmas.{and_first, and_second}
use Rattle.closure_plan.proofs.AskLemmas.{can_mark}
use Rattle.closure_plan.proofs.plan.Plan.next_slot.Goals as goal

pub returns-then-may_ask_shard-clause-find : goal.returns-then-may_ask_shard-clause-find
returns-then-may_ask_shard-clause-find g c =
    let name = name_at c.args.self.now.known.names c.args.n in
    sym (some_stops (may_ask g.P.PinHolder.contents g.H.LeafHolder.contents c.args.self.now) (λ s. is_some (wanted c.args.self.now.known.request (its_pins g.P.PinHolder.contents g.H.LeafHolder.contents c.args.self.now.known) s name)) (λ s. the_shard s name) c.loop-slot.slot _ (subst (λ n. c.loop-slot.slot < n) c.slots-slot-end.ensures.count c.loop-slot-test.true) (sym c.may_ask_shard.ensures ∙ c.if-may_ask_shard.true))
    ∙ c.loop-slot.invariant

pub loop-slot-preserved : goal.loop-slot-preserved
loop-slot-preserved g c =
    let name = name_at c.args.self.now.known.names c.args.n in
    sym (some_passed (may_ask g.P.PinHolder.contents g.H.LeafHolder.contents c.args.self.now) (λ s. is_some (wanted c.args.self.now.known.request (its_pins g.P.PinHolder.contents g.H.LeafHolder.contents c.args.self.now.known) s name)) (λ s. the_shard s name) c.loop-slot.slot _ (subst (λ n. c.loop-slot.slot < n) c.slots-slot-end.ensures.count c.loop-slot-test.true) (sym c.may_ask_shard.ensures ∙ c.if-may_ask_shard.false))
    ∙ c.loop-slot.invariant

pub returns-then-may_ask_shard-clause-fit : goal.returns-then-may_ask_shard-clause-fit
returns-then-may_ask_shard-clause-fit g c =
    let now = c.args.self.now in
    let name = name_at now.known.names c.args.n in
    let both = sym c.may_ask_shard.ensures ∙ c.if-may_ask_shard.true in
    let wants = is_some (wanted now.known.request (its_pins g.P.PinHolder.contents g.H.LeafHolder.contents now.known) c.loop-slot.slot name) in
    let asks = may_ask g.P.PinHolder.contents g.H.LeafHolder.contents now (the_shard c.loop-slot.slot name) in
    can_mark g.P.PinHolder.contents g.H.LeafHolder.contents now (need.Shard c.loop-slot.slot c.args.n) (c.requires, and_first wants asks both) (and_second wants asks both)
