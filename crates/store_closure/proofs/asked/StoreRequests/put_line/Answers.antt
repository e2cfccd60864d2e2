use Rattle.std.proofs.Common.{◌∙◌, sym, ap, rules}
use Rattle.store_closure.specs.Asked.{Asked}
use Rattle.store_closure.specs.Places.{places_of}
use Rattle.store_closure.specs.Stops.{bad_of}
use Rattle.store_closure.proofs.PlaceLemmas.{places_fit}
use Rattle.store_closure.proofs.FileLemmas.{stop_ends, answer_puts, refusal_puts}
use Rattle.store_closure.proofs.asked.StoreRequests.put_line.Goals as goal

pub closure_over-requires : goal.closure_over-requires
closure_over-requires g c =
    c.deref.ensures.value ∙ c.self.invariant.2 ∙ ap (λ (a : Asked). places_of a.channels a.subdirs) c.self.view_is
    ∙ sym (places_fit c.args.self.now c.args.line.now c.in-Ok.request c.in-Ok.ensures.gives)

pub returns-in_err-answer-in-Ok-clause-bad : goal.returns-in_err-answer-in-Ok-clause-bad
returns-in_err-answer-in-Ok-clause-bad g c =
    let stops = stop_ends c.args.self.now c.args.number c.args.line.now (g.S.Store.files c.args.store.now) c.in-Ok.request (bad_of c.in_err-answer-in-Ok.field-0.0) c.in-Ok.ensures.gives c.in_err-answer-in-Ok.ensures.bad in
    search rules

pub returns-in_ok-put_answer-in-Ok-clause-text : goal.returns-in_ok-put_answer-in-Ok-clause-text
returns-in_ok-put_answer-in-Ok-clause-text g c =
    answer_puts c.args.self.now c.args.number c.args.line.now (g.S.Store.files c.args.store.now) c.in-Ok.request c.in_ok-answer-in-Ok.answer.rows c.args.out.now.items c.put_answer.new.out.items
    c.in-Ok.ensures.gives c.in_ok-answer-in-Ok.ensures.answer c.in_ok-put_answer-in-Ok.ensures.ok

pub returns-in_ok-put_refusal-in-Err-clause-text : goal.returns-in_ok-put_refusal-in-Err-clause-text
returns-in_ok-put_refusal-in-Err-clause-text g c =
    refusal_puts c.args.self.now c.args.number c.args.line.now (g.S.Store.files c.args.store.now) c.in-Err.refusal c.args.out.now.items c.put_refusal.new.out.items
    c.in-Err.ensures.gives c.in_ok-put_refusal-in-Err.ensures
