use Rattle.std.proofs.Common.{◌≡◌, ◌≢◌, ℕ, ◌<◌, slice_index}
use Rattle.std.specs.Ordering.{nat_cmp}
use Rattle.std.specs.BTreeMap.{get}
use Rattle.flight_rows.specs.Changes.{Parts}
use Rattle.flight_rows.proofs.row.part_each.Given as goal

abbrev pub invariant-loop-i : goal.invariant-loop-i
invariant-loop-i t l = record {
  parted : (n : ℕ) → n < l.i → Parts l.query (get nat_cmp l.initial.rows (slice_index l.flights n)) (get nat_cmp l.rows (slice_index l.flights n));
  others : (g : ℕ) → ((n : ℕ) → n < l.i → slice_index l.flights n ≢ g) → get nat_cmp l.rows g ≡ get nat_cmp l.initial.rows g;
}
