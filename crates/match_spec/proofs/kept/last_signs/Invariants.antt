use Rattle.std.proofs.Common.{◌≡◌, ◌+◌, ◌≤◌, length, reverse}
use Rattle.byte_text.specs.Text.{sign_len}
use Rattle.match_spec.proofs.kept.last_signs.Given as goal

abbrev pub invariant-bytes : goal.invariant-bytes
invariant-bytes l = record {
  within : length l.front ≤ length l.text;
  value : sign_len (reverse l.text) + length l.front ≡ length l.text + sign_len (reverse l.front);
}

abbrev pub decreases-bytes : goal.decreases-bytes
decreases-bytes l = length l.front
