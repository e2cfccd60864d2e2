use Rattle.std.proofs.Common.{sym, ◌∙◌, ap, ◌+◌, ◌-◌, List}
use Rattle.std.proofs.lemmas.Result.{err_from_is_err_and}
use Rattle.mp_codec.specs.declared.span.Span.{Span}
use Rattle.mp_codec.specs.Span.{span_from}
use Rattle.conda_record.specs.Placing.{spans_at}
use Rattle.conda_record.proofs.TextLoop.{in_front, each_goes_on, each_stops, each_done}
use Rattle.conda_record.proofs.value.spans.Goals as goal

pub returns-in_err-text_span : goal.returns-in_err-text_span
returns-in_err-text_span c =
    let p = err_from_is_err_and c.from_residual-in_err-text_span.result c.from_residual-in_err-text_span.ensures.1 in
    rw (p.1, p.2) (sym c.loop.invariant ∙ each_stops span_from c.args.len c.loop.counter c.loop.spans.items _ c.loop.cur c.loop-test.true c.in_err-text_span.ensures.0)

pub loop-preserved : goal.loop-preserved
loop-preserved c =
    ap (λ (items : List Span). in_front span_from items (spans_at (c.args.len - (c.loop.counter + 1)) c.text_span.new.self)) c.in_ok-push.ensures.items
    ∙ sym (each_goes_on span_from c.args.len c.loop.counter c.loop.spans.items c.in_ok-text_span.field-0 c.loop.cur c.text_span.new.self c.loop-test.true c.in_ok-text_span.ensures)
    ∙ c.loop.invariant

pub returns : goal.returns
returns c = sym c.loop.invariant ∙ each_done span_from c.args.len c.loop.counter c.loop.spans.items c.loop.cur c.loop-test.false
