use Rattle.std.proofs.Common.{◌≡◌, ◌≤◌, length, reverse}
use Rattle.match_spec.specs.Reading.{behind_colons}
use Rattle.match_spec.proofs.text.before_colons.Given as goal

abbrev pub invariant-bytes : goal.invariant-bytes
invariant-bytes l = record {
  same : behind_colons (reverse l.front) ≡ behind_colons (reverse l.text);
  within : length l.front ≤ length l.text;
}

abbrev pub decreases-bytes : goal.decreases-bytes
decreases-bytes l = length l.front
