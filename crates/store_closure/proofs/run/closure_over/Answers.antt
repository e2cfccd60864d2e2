use Rattle.std.proofs.Common.{◌∙◌, refl, arith, rules}
use Rattle.closure_plan.specs.Plan.{wish_of}
use Rattle.store_closure.specs.Stops.{bad_of}
use Rattle.store_closure.proofs.RunLemmas.{starts, keeps_on, halts}
use Rattle.store_closure.proofs.run.closure_over.Goals as goal

pub loop-init : goal.loop-init
loop-init g c = (starts c.args.request c.in_ok-plan.plan (g.S.Store.files c.args.store.now) c.in_ok-plan.ensures, refl, omega arith)

pub returns-in_err-take_in-in-Some-clause-bad : goal.returns-in_err-take_in-in-Some-clause-bad
returns-in_err-take_in-in-Some-clause-bad g c =
    let stop = halts c.args.request c.loop.plan (wish_of c.loop.plan.known.names c.in-Some.need) (g.S.Store.files c.args.store.now) (g.S.Store.files c.loop.store)
    c.loop.invariant.1 c.loop.invariant.0 c.in-Some.ensures.least (bad_of c.in_err-take_in-in-Some.field-0.0) c.in_err-take_in-in-Some.ensures.gives in
    search rules

pub loop-preserved : goal.loop-preserved
loop-preserved g c =
    let on = keeps_on c.args.request c.loop.plan (wish_of c.loop.plan.known.names c.in-Some.need) (g.S.Store.files c.args.store.now) (g.S.Store.files c.loop.store)
    c.loop.invariant.1 c.loop.invariant.0 c.in-Some.ensures.least c.take_in.new.plan c.in_ok-take_in-in-Some.ensures.gives c.in_ok-take_in-in-Some.ensures.unmarked c.in_ok-take_in-in-Some.ensures.request in
    (on, c.take_in.ensures.same ∙ c.loop.invariant.1, let a = c.loop.invariant.2 in let b = c.take_in.ensures.later in omega (arith, a, b))
