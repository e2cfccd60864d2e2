use Rattle.std.proofs.Common.{◌≡◌, length}
use Rattle.std.specs.Prelude.{nat_lt}
use Rattle.store_closure.specs.Lines.{input_lines}
use Rattle.store_closure.proofs.lines.has_more_lines.Given as goal

abbrev pub invariant-lines : goal.invariant-lines
invariant-lines l = nat_lt l.most (length (input_lines l.bytes)) ≡ nat_lt l.free (length (input_lines l.left))

abbrev pub decreases-lines : goal.decreases-lines
decreases-lines l = length l.left
