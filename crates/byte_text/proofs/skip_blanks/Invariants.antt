use Rattle.std.proofs.Common.{◌≡◌, ◌≤◌, length}
use Rattle.byte_text.specs.Text.{skip_blanks}
use Rattle.byte_text.proofs.skip_blanks.Given as goal

abbrev pub invariant-loop-text : goal.invariant-loop-text
invariant-loop-text l = record { same : skip_blanks l.text ≡ skip_blanks l.fn.text; within : length l.text ≤ length l.fn.text }

abbrev pub decreases-loop-text : goal.decreases-loop-text
decreases-loop-text l = length l.text
