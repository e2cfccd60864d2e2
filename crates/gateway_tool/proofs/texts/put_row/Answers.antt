use Rattle.std.proofs.Common.{◌++◌, List, ℕ, sym, ◌∙◌, ap, take, append_assoc, arith}
use Rattle.std.specs.List.{flat_map}
use Rattle.conda_record.specs.View.{seen}
use Rattle.gateway_tool.specs.Texts.{depend_line}
use Rattle.gateway_tool.proofs.TextLemmas.{one-more, is-there}
use Rattle.gateway_tool.proofs.texts.put_row.Goals as goal
use Rattle.gateway_tool.proofs.texts.put_row.Goals.{in-Some+in_ok-put_depend, in_default}

pub loop-i-preserved : goal.loop-i-preserved
loop-i-preserved c =
    let depends = (seen c.args.row.view).depends in
    elim c.match-depend.branch [
      | in-Some+in_ok-put_depend w ↦
          let text = w.in-Some.text.now in
          let more = one-more depend_line depends c.loop-i.i text (sym w.in-Some.ensures) in
          let before = flat_map depend_line (take c.loop-i.i depends) in
          let lines : List ℕ → List ℕ = λ l. c.put_record_line.new.out.items ++ l in
          rw w.out-is (w.in_ok-put_depend.ensures ∙ ap (λ (l : List ℕ). l ++ depend_line text) c.loop-i.invariant ∙ append_assoc c.put_record_line.new.out.items before (depend_line text) ∙ ap lines (sym more))
      | in_default w ↦ absurd (is-there depends c.loop-i.i (omega arith) (sym w.in_default.ensures))
    ]
