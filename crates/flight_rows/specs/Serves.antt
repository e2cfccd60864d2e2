-- What the calls on the flights of a table write and answer.
use Rattle.std.specs.Prelude.{◌≡◌, ◌≢◌, ◌⊎◌, ◌++◌, ◌∷◌, [], ℕ, Bool, true, false, List, length, Option, Some, None}
use Rattle.link_io.specs.Parcel.{Packed}
use Rattle.link_io.specs.declared.target.Key.{Key}
use Rattle.link_io.specs.declared.target.Key.TheVariants as key
use Rattle.link_io.specs.declared.target.Target.{Target}
use Rattle.flight_journal.specs.declared.entry.Entry.{Entry}
use Rattle.flight_journal.specs.declared.entry.Entry.TheVariants.{Began, Joined, Hit, Taken, Landed, Cancelled, Closed, Evicted, Refreshed, Abandoned}
use Rattle.flight_journal.specs.State.{Flight, IsFlight, landed, WaitsIn, IsOwed, Flies, IsKept}
use Rattle.flight_journal.specs.Journal.{after, IsFreeKey}
use Rattle.flight_journal.specs.Count.{begun_in}
use Rattle.flight_rows.specs.declared.table.Drive.{Drive}
use Rattle.flight_rows.specs.declared.table.Drive.TheVariants.{Parcel, Busy, Ended, Again, Memory}
use Rattle.flight_rows.specs.declared.asking.Asked.{Asked}
use Rattle.flight_rows.specs.declared.asking.Asked.TheVariants as asked
use Rattle.flight_rows.specs.Sight.{Sight, hand_in}

-- these entries are written, and what they begin is dialed
pub record Writes (written : List Entry) (t t' : Sight) : Type 0 where
  pub journal : t'.journal ≡ t.journal ++ written
  pub dialed : t'.dialed ≡ t.dialed ++ begun_in written
  pub keep : t'.keep ≡ t.keep
  pub start : t'.start ≡ t.start
  pub origin : t'.origin ≡ t.origin

-- these flights are evicted, one after another
abbrev pub evictions : List ℕ → List Entry
evictions [] = []
evictions (f ∷ fs) = Evicted f ∷ evictions fs

-- these flights are abandoned, one after another
abbrev pub abandonments : List ℕ → List Entry
abandonments [] = []
abandonments (f ∷ fs) = Abandoned f ∷ abandonments fs

-- the flight is landed with this size by a query, and then some are evicted
abbrev pub Lands : ℕ → ℕ → Option ℕ → Sight → Sight → Type 0
Lands query f size t t' = (evicted : List ℕ) × Writes (Landed query f size ∷ evictions evicted) t t'

-- the entry says that the query leaves
abbrev pub IsLeaving : ℕ → Entry → Type 0
IsLeaving query e = (e ≡ Cancelled query) ⊎ (e ≡ Closed query)

-- a query leaves by this entry, and then some flights are abandoned
abbrev pub Leaves : Entry → Sight → Sight → Type 0
Leaves e t t' = (gone : List ℕ) × Writes (e ∷ abandonments gone) t t'

-- each parcel is where it was
abbrev pub HandsStay : Sight → Sight → Type 0
HandsStay t t' = (g : ℕ) → hand_in t'.hands g ≡ hand_in t.hands g

-- each parcel but the flight's is where it was
pub record HandMoves (f : ℕ) (hand : Option ℕ) (t t' : Sight) : Type 0 where
  pub here : hand_in t'.hands f ≡ hand
  pub others : (g : ℕ) → g ≢ f → hand_in t'.hands g ≡ hand_in t.hands g

-- ---- where a query finds a flight
-- the query waits in it, and the parcel stands in the table
abbrev pub IsHere : ℕ → ℕ → Sight → Type 0
IsHere query f t = WaitsIn (after t.journal) query f × (hand_in t.hands f ≡ None)

-- the query waits in it, and some query has the parcel in hand
abbrev pub IsAway : ℕ → ℕ → Sight → Type 0
IsAway query f t = WaitsIn (after t.journal) query f × ((other : ℕ) × (hand_in t.hands f ≡ Some other))

-- the query neither waits in it nor is owed its value
abbrev pub IsStranger : ℕ → ℕ → Sight → Type 0
IsStranger query f t = ¬ WaitsIn (after t.journal) query f × ¬ IsOwed (after t.journal) query f

-- ---- what `take` answers
-- the flight landed with this value, of its own target and size
abbrev pub HasLanded : {V : Type 0} → (Target → Option ℕ → V → Type 0) → ℕ → Sight → V → Type 0
HasLanded Comes f t value = (x : Flight) × IsFlight (after t.journal) f x × (size : Option ℕ) × (x.phase ≡ landed size) × Comes x.target size value

-- what each answer says, of a parcel that stands well for a target and of a value of a target and a size
abbrev pub Serves : {L V : Type 0} → (Target → Packed L → Type 0) → (Target → Option ℕ → V → Type 0) → ℕ → ℕ → Sight → Sight → Drive L V → Type 0
Serves Aimed Comes query f t t' (Parcel p) =
    Writes [] t t' × HandMoves f (Some query) t t' × IsHere query f t × ((u : Target) × Flies (after t.journal) f u × Aimed u p)
Serves Aimed Comes query f t t' Busy = (t' ≡ t) × IsAway query f t
Serves Aimed Comes query f t t' (Ended v) =
    Writes (Taken query f ∷ []) t t' × HandsStay t t' × IsOwed (after t.journal) query f × HasLanded Comes f t v.value
Serves Aimed Comes query f t t' Again = (t' ≡ t) × IsStranger query f t
Serves Aimed Comes query f t t' Memory = (t' ≡ t) × IsOwed (after t.journal) query f

-- ---- what `ask` answers
-- the flight is kept, with this value, of its own target and size
abbrev pub HasKept : {V : Type 0} → (Target → Option ℕ → V → Type 0) → ℕ → Sight → V → Type 0
HasKept Comes f t value =
    (x : Flight) × IsFlight (after t.journal) f x × (size : ℕ) × (x.phase ≡ landed (Some size)) × Comes x.target (Some size) value

-- the flight is kept for this key
abbrev pub IsKeptFor : ℕ → Key → Sight → Type 0
IsKeptFor f k t = (u : Target) × IsKept (after t.journal) f u × (u.key ≡ k)

-- the flight flies for this key
abbrev pub FliesFor : ℕ → Key → Sight → Type 0
FliesFor f k t = (u : Target) × Flies (after t.journal) f u × (u.key ≡ k)

-- what each answer says, of a value of a flight, a target and a size
abbrev pub Asks : {V : Type 0} → (ℕ → Target → Option ℕ → V → Type 0) → ℕ → Target → Sight → Sight → Asked V → Type 0
Asks Comes query target t t' (asked.Kept f v) =
    Writes (Hit query f ∷ []) t t' × HandsStay t t' × IsKeptFor f target.key t × HasKept (Comes f) f t v.value
Asks Comes query target t t' (asked.Joined f) =
    Writes (Joined query f ∷ []) t t' × HandsStay t t' × FliesFor f target.key t
Asks Comes query target t t' (asked.Began f) =
    Writes (Began query f target ∷ []) t t' × HandsStay t t' × IsFreeKey (after t.journal) target.key × (f ≡ length (after t.journal).flights)

-- ---- what `refresh` answers
-- true: a kept index of the address is given up; false: there is none, and nothing changes
abbrev pub Refreshes : List ℕ → Sight → Sight → Bool → Type 0
Refreshes url t t' true = (f : ℕ) × Writes (Refreshed f ∷ []) t t' × HandsStay t t' × IsKeptFor f (key.Index url) t
Refreshes url t t' false = (t' ≡ t) × ((f : ℕ) (u : Target) → IsKept (after t.journal) f u → u.key ≢ key.Index url)
