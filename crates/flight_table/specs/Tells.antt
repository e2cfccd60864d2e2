-- What a pass says of the flights of a table.
use Rattle.std.specs.Prelude.{◌≡◌, ℕ, length, Some}
use Rattle.flight_rows.specs.Sight.{Sight, hand_in}
use Rattle.flight_table.specs.Facts.{Facts}
use Rattle.flight_table.specs.Knows.{Knows}

-- all that a pass says is so: of the journal; of the flight whose parcel it has in hand, which is the only one that is in its
-- query's hand; of the dialer's list at the start, and of where connections are from
pub record Tells (t : Sight) (p : Facts) : Type 0 where
  pub knows : Knows t.journal p
  pub hand : (f : ℕ) → p.hand ≡ Some f → hand_in t.hands f ≡ Some p.query
  pub in_hand : (f : ℕ) → hand_in t.hands f ≡ Some p.query → p.hand ≡ Some f
  pub base : p.base ≡ length t.start
  pub origin : p.origin ≡ t.origin

-- the query has the parcels in hand that it had
abbrev pub HoldsTheSame : ℕ → Sight → Sight → Type 0
HoldsTheSame q s t =
    (f : ℕ) → (hand_in s.hands f ≡ Some q → hand_in t.hands f ≡ Some q) × (hand_in t.hands f ≡ Some q → hand_in s.hands f ≡ Some q)
