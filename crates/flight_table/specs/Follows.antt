-- What a call does to what passes and doors say, and what it makes of what its own pass says.
use Rattle.std.specs.Prelude.{◌≡◌, ◌≢◌, ◌⊎◌, ℕ, false, List, ◌∷◌, ◌++◌, Option, Some}
use Rattle.link_io.specs.Parcel.{Packed}
use Rattle.link_io.specs.Target.{IsPlain}
use Rattle.link_io.specs.declared.target.Key.{Key}
use Rattle.link_io.specs.declared.target.Target.{Target}
use Rattle.flight_journal.specs.State.{is_open}
use Rattle.flight_journal.specs.Journal.{after}
use Rattle.flight_journal.specs.Count.{Among}
use Rattle.flight_rows.specs.declared.table.Drive.{Drive}
use Rattle.flight_rows.specs.declared.table.Drive.TheVariants.{Parcel, Busy, Ended, Again, Memory}
use Rattle.flight_rows.specs.declared.asking.Asked.{Asked}
use Rattle.flight_rows.specs.declared.asking.Asked.TheVariants as asked
use Rattle.flight_rows.specs.Sight.{Sight}
use Rattle.flight_table.specs.Facts.{Facts, hit_pass, awaiting_pass, holding_pass, missed_pass, taken_pass, wreck_of}
use Rattle.flight_table.specs.Tells.{Tells}
use Rattle.flight_table.specs.Doors.{Gate, TellsDoor}

-- a call with a pass that said p and says r behind it: both are so of the table, what is so of any pass of another query
-- stays so, and so do the doors'
pub record Follows (s t : Sight) (p r : Facts) : Type 0 where
  pub told : Tells s p
  pub now : Tells t r
  pub others : (o : Facts) → o.query ≢ p.query → Tells s o → Tells t o
  pub opens : (q : ℕ) → q ≢ p.query → is_open (after t.journal) q ≡ is_open (after s.journal) q
  pub doors : (d : Gate) → TellsDoor s d → TellsDoor t d
  pub query : r.query ≡ p.query
  pub base : r.base ≡ p.base
  pub origin : r.origin ≡ p.origin

-- a call that opens the query of a pass, which is the query of no other
pub record Enters (s t : Sight) (r : Facts) : Type 0 where
  pub now : Tells t r
  pub fresh : (o : Facts) → Tells s o → o.query ≢ r.query
  pub others : (o : Facts) → Tells s o → Tells t o
  pub opens : (q : ℕ) → q ≢ r.query → is_open (after t.journal) q ≡ is_open (after s.journal) q

-- a call behind which the query of a pass that said p is open no more
pub record LeavesTable (s t : Sight) (p : Facts) : Type 0 where
  pub told : Tells s p
  pub others : (o : Facts) → o.query ≢ p.query → Tells s o → Tells t o
  pub opens : (q : ℕ) → q ≢ p.query → is_open (after t.journal) q ≡ is_open (after s.journal) q
  pub gone : is_open (after t.journal) p.query ≡ false

-- a call with no pass
pub record Stays (s t : Sight) : Type 0 where
  pub others : (o : Facts) → Tells s o → Tells t o
  pub opens : (q : ℕ) → is_open (after t.journal) q ≡ is_open (after s.journal) q

-- the new list is the old one less one x
pub record Removes {X : Type 0} (x : X) (old new : List X) : Type 0 where
  pub front : List X
  pub back : List X
  pub was : old ≡ front ++ x ∷ back
  pub is : new ≡ front ++ back

-- ---- what a call makes of what its own pass says
-- a flight is awaited no more, and all else is as this says of the rest
pub record Parts (f : ℕ) (is_so : List (ℕ × Target) → Facts) (p r : Facts) : Type 0 where
  pub target : Target
  pub removes : Removes (f, target) p.awaits r.awaits
  pub is : r ≡ is_so r.awaits

-- a flight is awaited from now on, for a target of the key that was asked for
pub record Awaits (f : ℕ) (k : Key) (p r : Facts) : Type 0 where
  pub target : Target
  pub keyed : target.key ≡ k
  pub plain : IsPlain target
  pub new : (t : Target) → ¬ Among (f, t) p.awaits
  pub is : r ≡ awaiting_pass f target p

-- what is kept under a key was taken: a value with a size
pub record Hits {V : Type 0} (Comes_so : ℕ → Target → Option ℕ → V → Type 0) (f : ℕ) (k : Key) (value : V) (p r : Facts) : Type 0 where
  pub target : Target
  pub keyed : target.key ≡ k
  pub size : ℕ
  pub so : Comes_so f target (Some size) value
  pub is : r ≡ hit_pass k p

-- by what `ask` answers
abbrev pub AskSays : {V : Type 0} → (ℕ → Target → Option ℕ → V → Type 0) → Key → Facts → Facts → Asked V → Type 0
AskSays Comes_so k p r (asked.Kept f v) = Hits Comes_so f k v.value p r
AskSays Comes_so k p r (asked.Joined f) = Awaits f k p r
AskSays Comes_so k p r (asked.Began f) = Awaits f k p r

-- a parcel of an awaited flight, which goes on well
abbrev pub HasParcel : {L : Type 0} → (ℕ → Target → Packed L → Type 0) → ℕ → Facts → Packed L → Type 0
HasParcel Aimed f p parcel = (t : Target) × Among (f, t) p.awaits × IsPlain t × Aimed f t parcel

-- a value of an awaited flight, of this size
abbrev pub HasValue : {V : Type 0} → (ℕ → Target → Option ℕ → V → Type 0) → ℕ → Facts → Option ℕ → V → Type 0
HasValue Comes_so f p size value = (t : Target) × Among (f, t) p.awaits × Comes_so f t size value

-- an owed value was given
pub record Ends {V : Type 0} (Comes_so : ℕ → Target → Option ℕ → V → Type 0) (f : ℕ) (value : V) (p r : Facts) : Type 0 where
  pub target : Target
  pub removes : Removes (f, target) p.awaits r.awaits
  pub size : Option ℕ
  pub so : Comes_so f target size value
  pub is : r ≡ taken_pass (wreck_of f size) r.awaits p

-- by what `take` answers
abbrev pub TakeSays : {L V : Type 0} → (ℕ → Target → Packed L → Type 0) → (ℕ → Target → Option ℕ → V → Type 0) → ℕ → Facts → Facts → Drive L V → Type 0
TakeSays Aimed Comes_so f p r (Parcel parcel) = HasParcel Aimed f p parcel × (r ≡ holding_pass f p)
TakeSays Aimed Comes_so f p r Busy = r ≡ p
TakeSays Aimed Comes_so f p r (Ended v) = Ends Comes_so f v.value p r
TakeSays Aimed Comes_so f p r Again = Parts f (λ rest. missed_pass f p) p r ⊎ (((t : Target) → ¬ Among (f, t) p.awaits) × (r ≡ p))
TakeSays Aimed Comes_so f p r Memory = r ≡ p
