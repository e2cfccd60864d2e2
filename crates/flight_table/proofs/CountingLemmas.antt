-- How many entries are such, and how many entries name a query.
use Rattle.std.proofs.Common.{◌≡◌, ℕ, ◌+◌, ◌≤◌, Bool, true, false, List, [], ◌∷◌, ◌++◌, length, refl, arith}
use Rattle.flight_journal.specs.declared.entry.Entry.{Entry}
use Rattle.flight_journal.specs.Count.{one_if, names, calls_of}
use Rattle.flight_rows.specs.Serves.{evictions, abandonments}
use Rattle.std.specs.List.{list_any}
use Rattle.flight_table.specs.Doors.{opens, cancels, refreshes, count}

pub count_append : (such : Entry → Bool) (es fs : List Entry) → count such (es ++ fs) ≡ count such es + count such fs
count_append such [] fs = omega arith
count_append such (e ∷ es) fs = let rest = count_append such es fs in omega arith

-- none of them opens a query, cancels one or gives up an index
pub record NoDoors (es : List Entry) : Type 0 where
  pub opened : count opens es ≡ 0
  pub cancelled : count cancels es ≡ 0
  pub refreshed : count refreshes es ≡ 0

pub no_doors_evict : (fs : List ℕ) → NoDoors (evictions fs)
no_doors_evict [] = record { opened = refl; cancelled = refl; refreshed = refl }
no_doors_evict (f ∷ fs) = let r = no_doors_evict fs in let o = r.opened in let c = r.cancelled in let g = r.refreshed in record { opened = omega arith; cancelled = omega arith; refreshed = omega arith }

pub no_doors_abandon : (fs : List ℕ) → NoDoors (abandonments fs)
no_doors_abandon [] = record { opened = refl; cancelled = refl; refreshed = refl }
no_doors_abandon (f ∷ fs) = let r = no_doors_abandon fs in let o = r.opened in let c = r.cancelled in let g = r.refreshed in record { opened = omega arith; cancelled = omega arith; refreshed = omega arith }

-- they name no query
pub evict_none : (q : ℕ) (fs : List ℕ) → list_any (names q) (evictions fs) ≡ false
evict_none q [] = refl
evict_none q (f ∷ fs) = evict_none q fs

pub abandon_none : (q : ℕ) (fs : List ℕ) → list_any (names q) (abandonments fs) ≡ false
abandon_none q [] = refl
abandon_none q (f ∷ fs) = abandon_none q fs

-- no more entries name a query than there are
pub few_calls : (q : ℕ) (es : List Entry) → calls_of q es ≤ length es
few_calls q [] = omega arith
few_calls q (e ∷ es) = let rest = few_calls q es in let one = at_most (names q e) in omega arith
  where
    at_most : (b : Bool) → one_if b ≤ 1
    at_most true = omega arith
    at_most false = omega arith
