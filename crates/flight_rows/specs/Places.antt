-- Where a query finds a flight. No public clause cites this module.
use Rattle.std.specs.Prelude.{◌≡◌, ℕ, true, false}
use Rattle.link_io.specs.Parcel.{Packed}
use Rattle.link_io.specs.declared.target.Key.{Key}
use Rattle.link_io.specs.declared.target.Target.{Target}
use Rattle.flight_journal.specs.State.{State, is_one_of, IsOwed, Flies, IsKept}
use Rattle.flight_journal.specs.Journal.{after, IsFreeKey}
use Rattle.flight_rows.specs.declared.row.Row.{Row}
use Rattle.flight_rows.specs.declared.row.At.TheVariants.{Here, Away, Came}
use Rattle.flight_rows.specs.declared.row.Place.{Place}
use Rattle.flight_rows.specs.declared.row.Place.TheVariants.{Stranger, Waits, Ready, Owed}
use Rattle.flight_rows.specs.declared.asking.Found.{Found}
use Rattle.flight_rows.specs.declared.asking.Found.TheVariants as found
use Rattle.flight_rows.specs.Sight.{Sight}
use Rattle.flight_rows.specs.Serves.{IsHere, IsAway, IsStranger}

-- what each place says of the row
abbrev pub IsPlace : {L V : Type 0} → ℕ → Row L V → Place → Type 0
IsPlace query r Stranger = is_one_of query r.queries.items ≡ false
IsPlace query r Waits = (is_one_of query r.queries.items ≡ true) × ((q : ℕ) × (r.at ≡ Away q))
IsPlace {L} {V} query r Ready = (is_one_of query r.queries.items ≡ true) × ((p : Packed L) × (r.at ≡ Here p))
IsPlace query r Owed = (is_one_of query r.queries.items ≡ true) × ((v : _) × (r.at ≡ Came v))

-- what each place says of the flight
abbrev pub Finds : ℕ → ℕ → Sight → Place → Type 0
Finds query f t Stranger = IsStranger query f t
Finds query f t Waits = IsAway query f t
Finds query f t Ready = IsHere query f t
Finds query f t Owed = IsOwed (after t.journal) query f

-- what is found of a key
abbrev pub FindsKey : Key → State → Found → Type 0
FindsKey k s found.Free = IsFreeKey s k
FindsKey k s (found.Flying f) = (t : Target) × Flies s f t × (t.key ≡ k)
FindsKey k s (found.Kept f) = (t : Target) × IsKept s f t × (t.key ≡ k)
