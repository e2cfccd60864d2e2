use Rattle.std.proofs.Common.{◌≡◌, ◌++◌, List, ℕ, true, false, sym, ◌∙◌, ap, arith}
use Rattle.shard_file.specs.Seen.{row_seen}
use Rattle.gateway_tool.specs.Texts.{row_text, is_asked}
use Rattle.gateway_tool.proofs.TextLemmas.{passing, failing, is-there}
use Rattle.gateway_tool.proofs.texts.show_text.Goals as goal
use Rattle.gateway_tool.proofs.texts.show_text.Goals.{in-Some+then-is_asked+in_ok-put_row, in-Some+else-is_asked, in_default}

pub loop-i-preserved : goal.loop-i-preserved
loop-i-preserved c =
    let is_right = is_asked c.args.spec.now in
    let rows = c.args.shard.now.rows in
    elim c.match-row.branch [
      | in-Some+then-is_asked+in_ok-put_row w ↦
          let row = row_seen w.in-Some.row in
          let is : is_right row ≡ true = sym w.is_asked.ensures ∙ w.if-is_asked.true in
          let more = passing row_text rows c.loop-i.i row (sym w.in-Some.ensures) is_right is in
          rw w.out-is (w.in_ok-put_row.ensures ∙ ap (λ (l : List ℕ). l ++ row_text row) c.loop-i.invariant ∙ sym more)
      | in-Some+else-is_asked w ↦
          let row = row_seen w.in-Some.row in
          let is : is_right row ≡ false = sym w.is_asked.ensures ∙ w.if-is_asked.false in
          rw w.out-is (c.loop-i.invariant ∙ sym (failing row_text rows c.loop-i.i row (sym w.in-Some.ensures) is_right is))
      | in_default w ↦ absurd (is-there rows c.loop-i.i (omega arith) (sym w.in_default.ensures))
    ]
