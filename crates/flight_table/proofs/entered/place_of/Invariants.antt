use Rattle.std.proofs.Common.{ℕ, ◌≤◌, ◌<◌, length, slice_index}
use Rattle.flight_table.proofs.entered.place_of.Given as goal

abbrev pub invariant-loop-place : goal.invariant-loop-place
invariant-loop-place l = record {
  within : l.place ≤ length l.flights;
  above : (n : ℕ) → l.place ≤ n → n < length l.flights → l.f ≤ slice_index l.flights n;
}

abbrev pub decreases-loop-place : goal.decreases-loop-place
decreases-loop-place l = l.place
