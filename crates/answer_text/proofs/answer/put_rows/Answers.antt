use Rattle.std.proofs.Common.{◌++◌, ◌≡◌, List, ℕ, length, sym, ◌∙◌, ap, take, append_assoc, arith, rules}
use Rattle.std.specs.List.{flat_map}
use Rattle.mp_codec.proofs.AppendLemmas.{kept_before}
use Rattle.closure_plan.specs.Shown.{row_shown}
use Rattle.answer_text.specs.Answers.{found_line}
use Rattle.answer_text.proofs.RowLemmas.{one-more, is-there}
use Rattle.answer_text.proofs.answer.put_rows.Goals as goal
use Rattle.answer_text.proofs.answer.put_rows.Goals.{in-Some+in_ok-put_row, in_default}

pub loop-i-preserved : goal.loop-i-preserved
loop-i-preserved g c =
    let rows = c.args.answer.now.rows in
    elim c.match-row.branch [
      | in-Some+in_ok-put_row w ↦
          let row = row_shown w.in-Some.row in
          let more = one-more found_line rows c.loop-i.i row (sym w.in-Some.ensures) in
          let before = flat_map found_line (take c.loop-i.i rows) in
          let lines : List ℕ → List ℕ = λ l. c.args.out.now.items ++ l in
          rw w.out-is (w.in_ok-put_row.ensures.ok ∙ ap (λ (l : List ℕ). l ++ found_line row) c.loop-i.invariant ∙ append_assoc c.args.out.now.items before (found_line row) ∙ ap lines (sym more))
      | in_default w ↦ absurd (is-there rows c.loop-i.i (omega arith) (sym w.in_default.ensures))
    ]

pub returns-in_err-put_row-clause-kept : goal.returns-in_err-put_row-clause-kept
returns-in_err-put_row-clause-kept g c =
    let old = c.args.out.now.items in
    let now = c.put_row.new.out.items in
    let kept : take (length old) now ≡ old = kept_before (flat_map found_line (take c.loop-i.i c.args.answer.now.rows)) old c.loop-i.out.items now c.loop-i.invariant c.in_err-put_row.ensures.kept in
    search rules
