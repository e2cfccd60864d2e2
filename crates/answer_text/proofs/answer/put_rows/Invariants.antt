use Rattle.std.proofs.Common.{◌≡◌, ◌++◌, take}
use Rattle.std.specs.List.{flat_map}
use Rattle.answer_text.specs.Answers.{found_line}
use Rattle.answer_text.proofs.answer.put_rows.Given as goal

abbrev pub invariant-loop-i : goal.invariant-loop-i
invariant-loop-i g l = l.out.items ≡ l.initial.out.items ++ flat_map found_line (take l.i l.answer.rows)
