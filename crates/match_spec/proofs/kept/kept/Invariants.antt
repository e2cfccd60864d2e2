use Rattle.std.proofs.Common.{◌≡◌, ◌+◌, ◌++◌, length}
use Rattle.std.specs.Prelude.{filter, IfSome}
use Rattle.match_spec.specs.Kept.{Placed, blanks_stay, placed_from, stays}
use Rattle.match_spec.proofs.kept.kept.Given as goal

abbrev pub invariant-bytes : goal.invariant-bytes
invariant-bytes l = record {
  same : l.kept.items ++ filter (λ (p : Placed). stays l.text p.at) (placed_from l.at l.rest) ≡ filter (λ (p : Placed). stays l.text p.at) (placed_from 0 l.text);
  whole : l.at + length l.rest ≡ length l.text;
  known : IfSome l.blank (λ stay. stay ≡ blanks_stay l.text l.at);
}

abbrev pub decreases-bytes : goal.decreases-bytes
decreases-bytes l = length l.rest
