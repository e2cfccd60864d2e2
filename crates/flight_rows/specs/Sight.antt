-- What contracts see of the flights of a table, and what is always so.
use Rattle.std.specs.Prelude.{◌≡◌, ℕ, List, ◌++◌, slice_get, Option, Some, None}
use Rattle.std.specs.Ordering.{nat_cmp}
use Rattle.std.specs.Map.{lookup}
use Rattle.std.specs.BTreeMap.{is_at}
use Rattle.link_io.specs.Origin.{Origin}
use Rattle.link_io.specs.Target.{IsPlain}
use Rattle.link_io.specs.declared.target.Target.{Target}
use Rattle.flight_journal.specs.declared.entry.Entry.{Entry}
use Rattle.flight_journal.specs.State.{WaitsIn, HoldsKey}
use Rattle.flight_journal.specs.Journal.{after, Legal, IsSettled}
use Rattle.flight_journal.specs.Count.{begun_in}

-- the journal, and the budget in bytes for what is kept; what had been dialed at the start, and by now; where connections
-- are from; and by flight which query has its parcel in hand
pub record Sight : Type 0 where
  pub journal : List Entry
  pub keep : ℕ
  pub start : List Target
  pub dialed : List Target
  pub origin : Origin
  pub hands : List (ℕ × Option ℕ)

-- a hand, where a flight has one
abbrev pub flat : Option (Option ℕ) → Option ℕ
flat None = None
flat (Some hand) = hand

-- which query has the flight's parcel in hand
abbrev pub hand_in : List (ℕ × Option ℕ) → ℕ → Option ℕ
hand_in hands f = flat (lookup (is_at (nat_cmp f)) hands)

-- each of these targets is plain
abbrev pub ArePlain : List Target → Type 0
ArePlain targets = (place : ℕ) (t : Target) → slice_get targets place ≡ Some t → IsPlain t

-- what is always so: the journal is legal and settled, the dialer's list is the old one and what was begun, each target that
-- was begun is plain, who has a parcel in hand waits in its flight, and no key has two flights that fly or are kept
pub record IsSightSound (t : Sight) : Type 0 where
  pub legal : Legal t.keep t.journal
  pub settled : IsSettled t.keep (after t.journal)
  pub dialed : t.dialed ≡ t.start ++ begun_in t.journal
  pub plain : ArePlain (begun_in t.journal)
  pub in_hand : (q f : ℕ) → hand_in t.hands f ≡ Some q → WaitsIn (after t.journal) q f
  pub one_key : (f g : ℕ) (u v : Target) → HoldsKey (after t.journal) f u → HoldsKey (after t.journal) g v → u.key ≡ v.key → f ≡ g
