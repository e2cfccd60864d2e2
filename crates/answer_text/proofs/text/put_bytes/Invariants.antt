use Rattle.std.proofs.Common.{◌≡◌, ◌++◌, take}
use Rattle.answer_text.specs.Text.{shown}
use Rattle.answer_text.proofs.text.put_bytes.Given as goal

abbrev pub invariant-loop-b : goal.invariant-loop-b
invariant-loop-b l = l.out.items ≡ l.initial.out.items ++ shown (take l.b-index l.b-items)
