-- What the table holds of the flights, and that it fits the journal.
use Rattle.std.specs.Prelude.{◌≡◌, ℕ, ◌+◌, ◌||◌, ◌≤◌, Bool, true, false, if◌then◌else◌, List, [], ◌∷◌, ◌++◌, length, slice_get, Option, Some, None}
use Rattle.std.specs.Ordering.{nat_cmp}
use Rattle.flight_rows.specs.Sight.{ArePlain}
use Rattle.std.specs.BTreeMap.{BTreeMap, get}
use Rattle.link_io.specs.Conn.{LinkFacts}
use Rattle.link_io.specs.Parcel.{Packed}
use Rattle.http_head.specs.Reply.{IsUnsettled}
use Rattle.link_io.specs.Origin.{Origin}
use Rattle.shard_cache.specs.Recency.{is_listed}
use Rattle.link_io.specs.declared.target.Key.{Key}
use Rattle.link_io.specs.declared.target.Target.{Target}
use Rattle.flight_rows.specs.declared.row.Row.{Row}
use Rattle.flight_rows.specs.declared.row.At.{At}
use Rattle.flight_rows.specs.declared.row.At.TheVariants.{Here, Away, Came}
use Rattle.flight_journal.specs.declared.entry.Entry.{Entry}
use Rattle.std.specs.declared.cmp.Ordering.{Ordering}
use Rattle.flight_journal.specs.State.{flying, landed, Flight, State, is_one_of, is_flying}
use Rattle.flight_journal.specs.Journal.{after, Legal}
use Rattle.flight_journal.specs.Count.{begun_in}

-- a parcel that stands in the table: it is for the flight's target, its link has the flight's number and is from the
-- origin, and it is to be gone on with: it isn't broken, and nothing of it is decided
pub record IsAimed {L : Type 0} (facts : L → LinkFacts) (from : L → Origin → Type 0) (before : ℕ) (origin : Origin) (f : ℕ) (t : Target) (p : Packed L) : Type 0 where
  pub aimed : p.target ≡ t
  pub numbered : (facts p.link).number ≡ before + f
  pub is_from : from p.link origin
  pub whole : p.broken ≡ false
  pub undecided : IsUnsettled p.received p.ended

-- a value that a flight came to: it has the flight's key and size and is from the origin, and without a size it has the
-- flight's number
pub record Comes {V : Type 0} (key : V → Key) (size : V → Option ℕ) (number : V → Option ℕ) (from : V → Origin → Type 0) (before : ℕ) (origin : Origin) (f : ℕ) (t : Target) (z : Option ℕ) (v : V) : Type 0 where
  pub keyed : key v ≡ t.key
  pub sized : size v ≡ z
  pub is_from : from v origin
  pub numbered : z ≡ None → number v ≡ Some (before + f)

-- which query has the flight's parcel in hand
abbrev pub hand_of : {L V : Type 0} → At L V → Option ℕ
hand_of (Here p) = None
hand_of (Away q) = Some q
hand_of (Came v) = None

-- by flight, which query has its parcel in hand
abbrev pub hands_of : {L V : Type 0} → List (ℕ × Row L V) → List (ℕ × Option ℕ)
hands_of [] = []
hands_of (e ∷ es) = (e.0, hand_of e.1.at) ∷ hands_of es

-- whether a flight's key is taken
abbrev pub is_live : Bool → Flight → Bool
is_live kept x = is_flying x.phase || kept

-- entries that are still to be written for the flights
abbrev pub owed_by : Flight → ℕ
owed_by x = length x.queries + (if is_flying x.phase then 1 else 0)

-- the same for all of these
abbrev pub owed_for : List Flight → ℕ
owed_for [] = 0
owed_for (x ∷ xs) = owed_by x + owed_for xs

-- how many queries are open
abbrev pub open_among : List Bool → ℕ
open_among [] = 0
open_among (b ∷ bs) = (if b then 1 else 0) + open_among bs

-- entries that are still to be written: one for each open query, for each query of a flight,
-- and for each flight that flies or is kept
abbrev pub needed : State → ℕ
needed s = open_among s.live + owed_for s.flights + length s.kept

module _ {L V : Type 0} (Aimed : ℕ → Target → Packed L → Type 0) (Came_so : ℕ → Target → Option ℕ → V → Type 0) where
  -- the parcel or value fits the flight
  abbrev pub AtFits : ℕ → Flight → Bool → At L V → Type 0
  AtFits f x kept (Here p) = (x.phase ≡ flying) × (kept ≡ false) × Aimed f x.target p
  AtFits f x kept (Away q) = (x.phase ≡ flying) × (kept ≡ false) × (is_one_of q x.queries ≡ true)
  AtFits f x kept (Came v) = (z : Option ℕ) × (x.phase ≡ landed z) × Came_so f x.target z v.value

  -- the row fits the flight
  pub record RowFits (f : ℕ) (x : Flight) (kept : Bool) (r : Row L V) : Type 0 where
    pub target : r.target ≡ x.target
    pub queries : r.queries.items ≡ x.queries
    pub kept_so : r.kept ≡ kept
    pub at_so : AtFits f x kept r.at

  -- a flight has a row that fits it, or it neither flies nor is kept nor is owed to anybody
  abbrev pub FlightFits : ℕ → Flight → Bool → Option (Row L V) → Type 0
  FlightFits f x kept None = (is_flying x.phase ≡ false) × (x.queries ≡ []) × (kept ≡ false)
  FlightFits f x kept (Some r) = RowFits f x kept r

  abbrev pub RowAt : ℕ → Option Flight → Bool → Option (Row L V) → Type 0
  RowAt f None kept None = kept ≡ false
  RowAt f None kept (Some r) = ⊥
  RowAt f (Some x) kept r = FlightFits f x kept r

  -- each flight's row fits it
  abbrev pub RowsFit : State → BTreeMap ℕ (Row L V) → Type 0
  RowsFit s rows = (f : ℕ) → RowAt f (slice_get s.flights f) (is_listed f s.kept) (get nat_cmp rows f)

-- the keys name exactly the flights that fly or are kept
pub record KeysFit (cmp : Key → Key → Ordering) (s : State) (keys : BTreeMap Key ℕ) : Type 0 where
  pub found : (k : Key) (f : ℕ) → get cmp keys k ≡ Some f → (x : Flight) × (slice_get s.flights f ≡ Some x) × (x.target.key ≡ k) × (is_live (is_listed f s.kept) x ≡ true)
  pub listed : (f : ℕ) (x : Flight) → slice_get s.flights f ≡ Some x → is_live (is_listed f s.kept) x ≡ true → get cmp keys x.target.key ≡ Some f

-- what the table holds fits the state behind so many entries, and the room for the entries to come is there
pub record Holds {L V : Type 0} (Aimed : ℕ → Target → Packed L → Type 0) (Came_so : ℕ → Target → Option ℕ → V → Type 0) (cmp : Key → Key → Ordering) (s : State) (written room : ℕ) (rows : BTreeMap ℕ (Row L V)) (keys : BTreeMap Key ℕ) (order : List (ℕ × ℕ)) (recent opened begun owed : ℕ) : Type 0 where
  pub rows_fit : RowsFit Aimed Came_so s rows
  pub keys_fit : KeysFit cmp s keys
  pub kept_so : order ≡ s.kept
  pub recent_so : length s.flights ≤ recent
  pub opened_so : opened ≡ length s.live
  pub begun_so : begun ≡ length s.flights
  pub few : opened + begun ≤ written
  pub owed_so : needed s ≤ owed
  pub fits : owed + written ≤ room

-- what the table holds fits the journal
pub record Keeps {L V : Type 0} (Aimed : ℕ → Target → Packed L → Type 0) (Came_so : ℕ → Target → Option ℕ → V → Type 0) (cmp : Key → Key → Ordering) (keep : ℕ) (start dialed : List Target) (journal : List Entry) (room : ℕ) (rows : BTreeMap ℕ (Row L V)) (keys : BTreeMap Key ℕ) (order : List (ℕ × ℕ)) (recent opened begun owed : ℕ) : Type 0 where
  pub legal : Legal keep journal
  pub dialed_so : dialed ≡ start ++ begun_in journal
  pub plain : ArePlain (begun_in journal)
  pub holds : Holds Aimed Came_so cmp (after journal) (length journal) room rows keys order recent opened begun owed
