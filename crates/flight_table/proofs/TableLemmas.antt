-- What each call leaves of the lines of a table's book.
use Rattle.std.proofs.Common.{◌≡◌, ◌≢◌, ℕ, zero, suc, ◌+◌, ◌≤◌, Bool, List, [], ◌∷◌, ◌++◌, length, Some, None, slice_set, refl, sym, ap, ◌∙◌, subst, arith}
use Rattle.pass_book.specs.Lines.{Lines, HasLine}
use Rattle.pass_book.proofs.LineLemmas.{push_else}
use Rattle.flight_journal.specs.declared.entry.Entry.{Entry}
use Rattle.flight_journal.specs.declared.entry.Entry.TheVariants.{Opened, Cancelled}
use Rattle.flight_journal.specs.Count.{one_if}
use Rattle.flight_rows.specs.Sight.{Sight}
use Rattle.flight_rows.specs.Serves.{Writes}
use Rattle.flight_table.specs.Facts.{Facts}
use Rattle.flight_table.specs.Doors.{Gate, TellsDoor, whole, first_door, lighter_door, split_off, joined_door, opening_door, cancelling_door, refreshing_door, opens, cancels, refreshes, count}
use Rattle.flight_table.specs.Lines.{Said, of_pass, of_door, DoorIsSo, DoorsAreSo, AreSo}
use Rattle.flight_table.specs.Tells.{Tells}
use Rattle.flight_table.specs.Follows.{Follows}
use Rattle.flight_table.proofs.CountingLemmas.{count_append}
use Rattle.flight_table.proofs.LinesLemmas.{differ_set, differ_push, passes_put, passes_drop, passes_push, passes_beside, no_pass, gone_no_pass}
use Rattle.flight_table.proofs.DoorLemmas.{doors_put_pass, doors_drop_pass, doors_push_pass, doors_mark, doors_split, doors_join}

-- two tables have the same budget, start and origin
pub record SameStart (s t : Sight) : Type 0 where
  pub keep : t.keep ≡ s.keep
  pub start : t.start ≡ s.start
  pub origin : t.origin ≡ s.origin

pub start_by : (s t : Sight) (written : List Entry) → Writes written s t → SameStart s t
start_by s t written w = record { keep = w.keep; start = w.start; origin = w.origin }

-- the numbers of all doors, as another table has them
pub doors_at : (s t : Sight) (a b c : ℕ) (lines : Lines Said) → SameStart s t → a ≡ count opens t.journal → b ≡ count cancels t.journal → c ≡ count refreshes t.journal
    → DoorsAreSo s.keep s.start s.origin a b c lines → DoorsAreSo t.keep t.start t.origin (count opens t.journal) (count cancels t.journal) (count refreshes t.journal) lines
doors_at s t a b c lines same i j k so = record {
  each = λ n d has. let it = so.each n d has in record { keep_so = it.keep_so ∙ sym same.keep; start_so = it.start_so ∙ sym same.start; origin_so = it.origin_so ∙ sym same.origin; weighs = it.weighs };
  weights = so.weights;
  opened_so = so.opened_so ∙ i;
  cancelled_so = so.cancelled_so ∙ j;
  refreshed_so = so.refreshed_so ∙ k;
}

-- the door that has all of a table's numbers
abbrev whole_door : Sight → Gate
whole_door s = record { weight = whole; opened = count opens s.journal; cancelled = count cancels s.journal; refreshed = count refreshes s.journal; keep = s.keep; start = s.start; origin = s.origin }

whole_told : (s : Sight) → TellsDoor s (whole_door s)
whole_told s = record { keep = refl; start = refl; origin = refl; opened = λ all. refl; cancelled = λ all. refl; refreshed = λ all. refl }

-- a call with a pass
pub so_put : (s t : Sight) (lines : Lines Said) (n : ℕ) (p r : Facts) → HasLine lines n (of_pass p) → Follows s t p r → AreSo s lines → AreSo t (slice_set lines n (Some (of_pass r)))
so_put s t lines n p r has f so =
    let d = f.doors (whole_door s) (whole_told s) in
    let same : SameStart s t = record { keep = sym d.keep; start = sym d.start; origin = sym d.origin } in
    record {
      passes = passes_put s t lines n p r has f.query f.now f.others so.passes;
      doors = doors_at s t (count opens s.journal) (count cancels s.journal) (count refreshes s.journal) (slice_set lines n (Some (of_pass r))) same (d.opened refl) (d.cancelled refl) (d.refreshed refl)
          (doors_put_pass s.keep s.start s.origin (count opens s.journal) (count cancels s.journal) (count refreshes s.journal) lines n p r has so.doors);
    }

-- a query enters
pub so_enter : (s t : Sight) (lines : Lines Said) (n q : ℕ) (r : Facts) (d : Gate) → Writes (Opened q ∷ []) s t → Tells t r → ((o : Facts) → Tells s o → o.query ≢ r.query) → ((o : Facts) → Tells s o → Tells t o)
    → HasLine lines n (of_door d) → AreSo s lines → AreSo t (slice_set (lines ++ Some (of_pass r) ∷ []) n (Some (of_door (opening_door d))))
so_enter s t lines n q r d w now fresh others has so =
    let more = lines ++ Some (of_pass r) ∷ [] in
    let had = push_else lines (Some (of_pass r)) n (of_door d) has in
    let old = so.doors.each n d has in
    let opened = counts opens in
    let cancelled = counts cancels in
    let refreshed = counts refreshes in
    record {
      passes = passes_beside t t more (slice_set more n (Some (of_door (opening_door d)))) n (Some (of_door (opening_door d))) (differ_set more n (of_door d) (Some (of_door (opening_door d))) had) (no_pass (opening_door d)) (λ o k. k)
          (passes_push s t lines r now fresh others so.passes);
      doors = doors_at s t (count opens s.journal + 1) (count cancels s.journal + 0) (count refreshes s.journal + 0) (slice_set more n (Some (of_door (opening_door d)))) (start_by s t (Opened q ∷ []) w) (sym opened) (sym cancelled) (sym refreshed)
          (doors_mark s.keep s.start s.origin (count opens s.journal) (count cancels s.journal) (count refreshes s.journal) 1 0 0 more n d (opening_door d) had
          (record { keep_so = old.keep_so; start_so = old.start_so; origin_so = old.origin_so; weighs = old.weighs }) refl refl (omega arith) (omega arith)
          (doors_push_pass s.keep s.start s.origin (count opens s.journal) (count cancels s.journal) (count refreshes s.journal) lines r so.doors));
    }
  where
    counts : (such : Entry → Bool) → count such t.journal ≡ count such s.journal + count such (Opened q ∷ [])
    counts such = ap (count such) w.journal ∙ count_append such s.journal (Opened q ∷ [])

-- a query is cancelled
pub so_cancel : (s t : Sight) (lines : Lines Said) (m n q : ℕ) (rest : List Entry) (p : Facts) (d : Gate) → Writes (Cancelled q ∷ rest) s t → count opens rest ≡ 0 → count cancels rest ≡ 0 → count refreshes rest ≡ 0
    → ((o : Facts) → o.query ≢ p.query → Tells s o → Tells t o)
    → HasLine lines m (of_pass p) → HasLine (slice_set lines m None) n (of_door d) → AreSo s lines → AreSo t (slice_set (slice_set lines m None) n (Some (of_door (cancelling_door d))))
so_cancel s t lines m n q rest p d w none none' none'' others has had so =
    let less = slice_set lines m None in
    let light = doors_drop_pass s.keep s.start s.origin (count opens s.journal) (count cancels s.journal) (count refreshes s.journal) lines m p has so.doors in
    let old = light.each n d had in
    let opened = counts opens in
    let cancelled = counts cancels in
    let refreshed = counts refreshes in
    record {
      passes = passes_beside t t less (slice_set less n (Some (of_door (cancelling_door d)))) n (Some (of_door (cancelling_door d))) (differ_set less n (of_door d) (Some (of_door (cancelling_door d))) had) (no_pass (cancelling_door d)) (λ o k. k)
          (passes_drop s t lines m p has others so.passes);
      doors = doors_at s t (count opens s.journal + 0) (count cancels s.journal + 1) (count refreshes s.journal + 0) (slice_set less n (Some (of_door (cancelling_door d)))) (start_by s t (Cancelled q ∷ rest) w) (omega arith) (omega arith) (omega arith)
          (doors_mark s.keep s.start s.origin (count opens s.journal) (count cancels s.journal) (count refreshes s.journal) 0 1 0 less n d (cancelling_door d) had
          (record { keep_so = old.keep_so; start_so = old.start_so; origin_so = old.origin_so; weighs = old.weighs }) refl (omega arith) refl (omega arith)
          light);
    }
  where
    counts : (such : Entry → Bool) → count such t.journal ≡ count such s.journal + count such (Cancelled q ∷ rest)
    counts such = ap (count such) w.journal ∙ count_append such s.journal (Cancelled q ∷ rest)

-- an index is given up, or not
pub so_refresh : (s t : Sight) (lines : Lines Said) (n : ℕ) (given_up : Bool) (d : Gate) → SameStart s t → count opens t.journal ≡ count opens s.journal → count cancels t.journal ≡ count cancels s.journal
    → count refreshes t.journal ≡ count refreshes s.journal + one_if given_up → ((o : Facts) → Tells s o → Tells t o)
    → HasLine lines n (of_door d) → AreSo s lines → AreSo t (slice_set lines n (Some (of_door (refreshing_door given_up d))))
so_refresh s t lines n given_up d same i j k others has so =
    let old = so.doors.each n d has in
    record {
      passes = passes_beside s t lines (slice_set lines n (Some (of_door (refreshing_door given_up d)))) n (Some (of_door (refreshing_door given_up d))) (differ_set lines n (of_door d) (Some (of_door (refreshing_door given_up d))) has) (no_pass (refreshing_door given_up d)) others so.passes;
      doors = doors_at s t (count opens s.journal + 0) (count cancels s.journal + 0) (count refreshes s.journal + one_if given_up) (slice_set lines n (Some (of_door (refreshing_door given_up d)))) same (omega arith) (omega arith) (sym k)
          (doors_mark s.keep s.start s.origin (count opens s.journal) (count cancels s.journal) (count refreshes s.journal) 0 0 (one_if given_up) lines n d (refreshing_door given_up d) has
          (record { keep_so = old.keep_so; start_so = old.start_so; origin_so = old.origin_so; weighs = old.weighs }) refl (omega arith) (omega arith) refl
          so.doors);
    }

-- doors alone
pub so_split : (s : Sight) (lines : Lines Said) (n : ℕ) (d : Gate) → 2 ≤ d.weight → HasLine lines n (of_door d) → HasLine (lines ++ Some (of_door (split_off d)) ∷ []) n (of_door d)
    → AreSo s lines → AreSo s (slice_set (lines ++ Some (of_door (split_off d)) ∷ []) n (Some (of_door (lighter_door d))))
so_split s lines n d two has had so =
    let more = lines ++ Some (of_door (split_off d)) ∷ [] in
    record {
      passes = passes_beside s s more (slice_set more n (Some (of_door (lighter_door d)))) n (Some (of_door (lighter_door d))) (differ_set more n (of_door d) (Some (of_door (lighter_door d))) had) (no_pass (lighter_door d)) (λ o k. k)
          (passes_beside s s lines more (length lines) (Some (of_door (split_off d))) (differ_push lines (Some (of_door (split_off d)))) (no_pass (split_off d)) (λ o k. k) so.passes);
      doors = doors_split s.keep s.start s.origin (count opens s.journal) (count cancels s.journal) (count refreshes s.journal) lines n d two has had so.doors;
    }

pub so_join : (s : Sight) (lines : Lines Said) (n m : ℕ) (d e : Gate) → HasLine lines n (of_door d) → HasLine (slice_set lines n (Some (of_door (joined_door d e)))) m (of_door e)
    → AreSo s lines → AreSo s (slice_set (slice_set lines n (Some (of_door (joined_door d e)))) m None)
so_join s lines n m d e has had so =
    let one = slice_set lines n (Some (of_door (joined_door d e))) in
    record {
      passes = passes_beside s s one (slice_set one m None) m None (differ_set one m (of_door e) None had) gone_no_pass (λ o k. k)
          (passes_beside s s lines one n (Some (of_door (joined_door d e))) (differ_set lines n (of_door d) (Some (of_door (joined_door d e))) has) (no_pass (joined_door d e)) (λ o k. k) so.passes);
      doors = doors_join s.keep s.start s.origin (count opens s.journal) (count cancels s.journal) (count refreshes s.journal) lines n m d e has had so.doors;
    }

-- a pass is told
pub so_tell : (s : Sight) (lines : Lines Said) (n : ℕ) (p : Facts) → HasLine lines n (of_pass p) → AreSo s lines → AreSo s (slice_set lines n None)
so_tell s lines n p has so = record {
  passes = passes_drop s s lines n p has (λ o ne k. k) so.passes;
  doors = doors_drop_pass s.keep s.start s.origin (count opens s.journal) (count cancels s.journal) (count refreshes s.journal) lines n p has so.doors;
}

-- a table begins
pub so_new : (s : Sight) → s.journal ≡ [] → AreSo s (Some (of_door (first_door s.keep s.start s.origin)) ∷ [])
so_new s empty = record {
  passes = record {
    told = no_pass_there;
    apart = λ m n p r has had same. absurd (never m p has);
  };
  doors = record {
    each = each_there;
    weights = refl;
    opened_so = sym (ap (count opens) empty);
    cancelled_so = sym (ap (count cancels) empty);
    refreshed_so = sym (ap (count refreshes) empty);
  };
}
  where
    lines : Lines Said
    lines = Some (of_door (first_door s.keep s.start s.origin)) ∷ []

    never : (n : ℕ) (p : Facts) → HasLine lines n (of_pass p) → ⊥
    never zero p has = cc
    never (suc n) p has = cc

    no_pass_there : (n : ℕ) (p : Facts) → HasLine lines n (of_pass p) → Tells s p
    no_pass_there n p has = absurd (never n p has)

    each_there : (n : ℕ) (d : Gate) → HasLine lines n (of_door d) → DoorIsSo s.keep s.start s.origin d
    each_there zero d has = let same : first_door s.keep s.start s.origin ≡ d = cc in subst (DoorIsSo s.keep s.start s.origin) same (record { keep_so = refl; start_so = refl; origin_so = refl; weighs = omega arith })
    each_there (suc n) d has = cc
