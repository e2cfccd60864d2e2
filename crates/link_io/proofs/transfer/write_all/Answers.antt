use Rattle.std.proofs.Common.{◌≡◌, ◌-◌, take, drop, length, sym, ◌∙◌, ap, arith, List, ℕ, length-drop}
use Rattle.std.proofs.Math.Seq.{take-add}
use Rattle.std.proofs.lemmas.List.{take_rest}
use Rattle.std.specs.Io.KnownBytes.{append_known}
use Rattle.link_io.proofs.ToldLemmas.{writes-on}
use Rattle.link_io.proofs.transfer.write_all.Goals as goal

pub loop-at-preserved : goal.loop-at-preserved
loop-at-preserved g c =
    let before = c.loop-at.invariant in
    let now = c.in_ok-at.ensures.ok in
    let at = c.loop-at.at in
    let count = c.in_ok-at.field-0 in
    let bytes = c.args.bytes.now in
    let rest : take (length bytes - at) (drop at bytes) ≡ drop at bytes = take_rest bytes at in
    let piece = ap (λ (l : List ℕ). append_known (g.O.Sink.written c.loop-at.sink) (take count l)) rest in
    record {
      within = omega (arith, now.within, ap length rest, length-drop at bytes);
      written = writes-on _ _ _ (take at bytes) (take count (drop at bytes)) before.written (now.bytes ∙ piece) ∙ ap (append_known _) (sym (take-add at count bytes));
      later = omega arith;
      untouched = λ none. absurd (omega (arith, ap length none));
    }
