use Rattle.std.proofs.Common.{◌≡◌, refl, sym, ◌∙◌, ap, subst, false, List, ℕ}
use Rattle.std.specs.Io.KnownBytes.{append_known}
use Rattle.link_io.specs.Transfer.{AppendsPart}
use Rattle.gateway_tool.specs.Closure.{is_too_much}
use Rattle.gateway_tool.specs.Show.{IsWhole}
use Rattle.gateway_tool.proofs.ClosureLemmas.{closed_whole, closed_part, closed_bad}
use Rattle.gateway_tool.proofs.closure.closure.Goals as goal

pub returns-in-Err-Bad-clause-answers : goal.returns-in-Err-Bad-clause-answers
returns-in-Err-Bad-clause-answers g c =
    let whole : IsWhole (g.I.Source.left c.args.input.now) c.as_slice.result.now = subst (IsWhole (g.I.Source.left c.args.input.now)) (sym c.as_slice.ensures.value) c.in-Ok.ensures.ok in
    let within : is_too_much c.as_slice.result.now ≡ false = ap is_too_much c.as_slice.ensures.value ∙ c.in-Ok.ensures.within in
    closed_bad c.args.asked.now _ _ c.as_slice.result.now whole within c.answers.ensures.same c.in-Err-Bad.bad (rw c.in-Err-Bad.field-0-is at c.in-Err-Bad.ensures.bad) refl

pub returns-in-Ok-write_all-clause-answers : goal.returns-in-Ok-write_all-clause-answers
returns-in-Ok-write_all-clause-answers g c =
    let whole : IsWhole (g.I.Source.left c.args.input.now) c.as_slice.result.now = subst (IsWhole (g.I.Source.left c.args.input.now)) (sym c.as_slice.ensures.value) c.in-Ok.ensures.ok in
    let within : is_too_much c.as_slice.result.now ≡ false = ap is_too_much c.as_slice.ensures.value ∙ c.in-Ok.ensures.within in
    let wrote : g.O.Sink.written c.write_all.new.sink ≡ append_known (g.O.Sink.written c.args.out.now) c.in-Ok-answers.answers.text.items =
    c.in-Ok-write_all.ensures.ok ∙ ap (append_known (g.O.Sink.written c.args.out.now)) c.as_slice-2.ensures.value in
    rw c.answered_status.ensures
    (closed_whole c.args.asked.now _ _ c.as_slice.result.now whole within c.answers.ensures.same c.in-Ok-answers.answers.text.items c.in-Ok-answers.answers.refused c.in-Ok-answers.ensures.answered wrote c.in-Ok.ensures.end)

pub returns-clause-answers : goal.returns-clause-answers
returns-clause-answers g c =
    let whole : IsWhole (g.I.Source.left c.args.input.now) c.as_slice.result.now = subst (IsWhole (g.I.Source.left c.args.input.now)) (sym c.as_slice.ensures.value) c.in-Ok.ensures.ok in
    let within : is_too_much c.as_slice.result.now ≡ false = ap is_too_much c.as_slice.ensures.value ∙ c.in-Ok.ensures.within in
    let part : AppendsPart (g.O.Sink.written c.args.out.now) (g.O.Sink.written c.write_all.new.sink) c.in-Ok-answers.answers.text.items =
    subst (λ (t : List ℕ). AppendsPart (g.O.Sink.written c.args.out.now) (g.O.Sink.written c.write_all.new.sink) t) c.as_slice-2.ensures.value c.in-Err.ensures.err in
    closed_part c.args.asked.now _ _ c.as_slice.result.now whole within c.answers.ensures.same c.in-Ok-answers.answers.text.items c.in-Ok-answers.answers.refused c.in-Ok-answers.ensures.answered part
