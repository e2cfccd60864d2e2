use Rattle.std.proofs.Common.{◌≡◌, ◌≤◌, length, reverse}
use Rattle.byte_text.specs.Text.{behind_first}
use Rattle.byte_text.proofs.before_last.Given as goal

abbrev pub invariant-bytes : goal.invariant-bytes
invariant-bytes l = record {
  same : behind_first l.mark (reverse l.front) ≡ behind_first l.mark (reverse l.text);
  within : length l.front ≤ length l.text;
}

abbrev pub decreases-bytes : goal.decreases-bytes
decreases-bytes l = length l.front
