use Rattle.std.proofs.Common.{◌≡◌, Err, rules}
use Rattle.std.proofs.lemmas.Result.{err_from_is_err_and}
use Rattle.channel_indexer.proofs.IndexLemmas.{place-fails, place-stops, plan-no-store}
use Rattle.channel_indexer.proofs.UniqueLemmas.{input-fails, answers-fault, answers-none, plan-unbroken}
use Rattle.channel_indexer.proofs.index.index_subdir.Goals as goal

pub returns-in_err-bytes-clause-broken : goal.returns-in_err-bytes-clause-broken
returns-in_err-bytes-clause-broken g c =
    let old = g.S.Store.files c.args.store.now in
    let e = c.in_err-bytes.field-0.0 in
    let p = err_from_is_err_and c.from_residual.result c.from_residual.ensures.1 in
    let is : c.from_residual.result ≡ Err e = cc (p.1, p.2) in
    answers-fault old c.args.place.now c.from_residual.result e is (input-fails old c.args.place.now e c.in_err-bytes.ensures.gives)

pub returns-in_err-bytes-clause-only : goal.returns-in_err-bytes-clause-only
returns-in_err-bytes-clause-only g c =
    let old = g.S.Store.files c.args.store.now in
    let e = c.in_err-bytes.field-0.0 in
    let p = err_from_is_err_and c.from_residual.result c.from_residual.ensures.1 in
    let is : c.from_residual.result ≡ Err e = cc (p.1, p.2) in
    answers-none old c.args.place.now c.from_residual.result e is (input-fails old c.args.place.now e c.in_err-bytes.ensures.gives)

pub returns-in_err-plan-clause-broken : goal.returns-in_err-plan-clause-broken
returns-in_err-plan-clause-broken g c =
    let old = g.S.Store.files c.args.store.now in
    let e = c.in_err-plan.field-0.0 in
    let p = err_from_is_err_and c.from_residual-in_err-plan.result c.from_residual-in_err-plan.ensures.1 in
    let is : c.from_residual-in_err-plan.result ≡ Err e = cc (p.1, p.2) in
    answers-fault old c.args.place.now c.from_residual-in_err-plan.result e is
    (place-fails old c.args.place.now c.in_ok-bytes.bytes.items e c.in_ok-bytes.ensures.gives c.in_err-plan.ensures)

pub returns-in_err-plan-clause-only : goal.returns-in_err-plan-clause-only
returns-in_err-plan-clause-only g c =
    let old = g.S.Store.files c.args.store.now in
    let e = c.in_err-plan.field-0.0 in
    let p = err_from_is_err_and c.from_residual-in_err-plan.result c.from_residual-in_err-plan.ensures.1 in
    let is : c.from_residual-in_err-plan.result ≡ Err e = cc (p.1, p.2) in
    answers-none old c.args.place.now c.from_residual-in_err-plan.result e is
    (place-fails old c.args.place.now c.in_ok-bytes.bytes.items e c.in_ok-bytes.ensures.gives c.in_err-plan.ensures)

pub returns-in_err-plan-clause-fault : goal.returns-in_err-plan-clause-fault
returns-in_err-plan-clause-fault g c =
    let fails = place-fails (g.S.Store.files c.args.store.now) c.args.place.now c.in_ok-bytes.bytes.items c.in_err-plan.field-0.0 c.in_ok-bytes.ensures.gives c.in_err-plan.ensures in
    search rules

pub returns-in_err-plan-clause-cause : goal.returns-in_err-plan-clause-cause
returns-in_err-plan-clause-cause g c =
    let never = plan-no-store c.args.place.now c.in_ok-bytes.bytes.items c.in_err-plan.field-0.0 c.in_err-plan.ensures in
    let p = err_from_is_err_and c.from_residual-in_err-plan.result c.from_residual-in_err-plan.ensures.1 in
    λ is. absurd (never (cc (is, p.1, p.2)))

pub returns-in_err-kept-clause-stop : goal.returns-in_err-kept-clause-stop
returns-in_err-kept-clause-stop g c =
    place-stops (g.S.Store.files c.args.store.now) (g.S.Store.files c.input.new.store) (g.S.Store.files c.put_prepared.new.store) c.args.place.now c.in_ok-bytes.bytes.items c.in_ok-plan.plan
    c.in_ok-bytes.ensures.gives c.in_ok-plan.ensures c.input.ensures.same c.put_prepared.ensures.stop

pub returns-clause-stop : goal.returns-clause-stop
returns-clause-stop g c =
    place-stops (g.S.Store.files c.args.store.now) (g.S.Store.files c.input.new.store) (g.S.Store.files c.put_prepared.new.store) c.args.place.now c.in_ok-bytes.bytes.items c.in_ok-plan.plan
    c.in_ok-bytes.ensures.gives c.in_ok-plan.ensures c.input.ensures.same c.put_prepared.ensures.stop

pub returns-clause-broken : goal.returns-clause-broken
returns-clause-broken g c =
    plan-unbroken (g.S.Store.files c.args.store.now) c.args.place.now c.in_ok-bytes.bytes.items c.in_ok-plan.plan c.in_ok-bytes.ensures.gives c.in_ok-plan.ensures
