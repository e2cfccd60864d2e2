use Rattle.std.proofs.Common.{◌≡◌, ◌-◌}
use Rattle.mp_codec.specs.Span.{span_from}
use Rattle.conda_record.specs.Placing.{spans_at}
use Rattle.conda_record.proofs.TextLoop.{in_front}
use Rattle.conda_record.proofs.value.spans.Given as goal

-- the spans so far, in front of those that are left, are all of them
abbrev pub invariant-loop : goal.invariant-loop
invariant-loop l = in_front span_from l.spans.items (spans_at (l.len - l.counter) l.cur) ≡ spans_at l.len l.fn.cur
