-- A query leaves flights, one after another.
use Rattle.std.proofs.Common.{◌≡◌, ◌≢◌, ◌⊎◌, ℕ, zero, suc, ◌+◌, ◌-◌, ◌<◌, ◌==◌, ◌||◌, not, cond, Bool, true, false, true≢false, List, [], ◌∷◌, length, Option, Some, None, slice_index, refl, sym, ap, ◌∙◌, subst, ⊎_elim, inl, inr, arith}
use Rattle.std.specs.List.Sorted.{IsStrictlyIncreasing}
use Rattle.std.specs.Ordering.{nat_cmp}
use Rattle.std.specs.BTreeMap.{BTreeMap, get}
use Rattle.std.proofs.lemmas.Bool.{cases_eq}
use Rattle.flight_journal.specs.State.{is_one_of, all_but}
use Rattle.flight_rows.specs.declared.row.Row.{Row}
use Rattle.flight_rows.specs.Changes.{Parts}

-- ---- numbers that rise
rises_by : (xs : List ℕ) (n d : ℕ) → IsStrictlyIncreasing xs → n + suc d < length xs → slice_index xs n < slice_index xs (n + suc d)
rises_by xs n zero rising below =
    let one : n + 1 < length xs = omega arith in
    let step = rising n one in
    subst (λ m. slice_index xs n < slice_index xs m) (same n) step
  where
    same : (m : ℕ) → m + 1 ≡ m + suc zero
    same m = omega arith
rises_by xs n (suc d) rising below =
    let before : slice_index xs n < slice_index xs (n + suc d) = rises_by xs n d rising (omega arith) in
    let step : slice_index xs (n + suc d) < slice_index xs ((n + suc d) + 1) = rising (n + suc d) (omega arith) in
    let same : (n + suc d) + 1 ≡ n + suc (suc d) = omega arith in
    let next : slice_index xs (n + suc d) < slice_index xs (n + suc (suc d)) = subst (λ m. slice_index xs (n + suc d) < slice_index xs m) same step in
    less (slice_index xs n) (slice_index xs (n + suc d)) (slice_index xs (n + suc (suc d))) before next
  where
    less : (a b c : ℕ) → a < b → b < c → a < c
    less a b c h k = omega arith

pub rises : (xs : List ℕ) (n m : ℕ) → IsStrictlyIncreasing xs → n < m → m < length xs → slice_index xs n < slice_index xs m
rises xs n m rising before below = go (m - suc n) (omega arith)
  where
    go : (d : ℕ) → m ≡ n + suc d → slice_index xs n < slice_index xs m
    go d is = subst (λ k. slice_index xs n < slice_index xs k) (sym is) (rises_by xs n d rising (omega arith))

-- a number is one of some, or none of them
pub stands_or_not : (g : ℕ) (xs : List ℕ) → ((n : ℕ) × (n < length xs) × (slice_index xs n ≡ g)) ⊎ ((n : ℕ) → n < length xs → slice_index xs n ≢ g)
stands_or_not g [] = inr (λ n below same. absurd (omega arith))
stands_or_not g (x ∷ xs) =
    ⊎_elim
    (λ (e : x ≡ g). inl (zero, omega arith, e))
    (λ (ne : x ≢ g). ⊎_elim
    (λ (w : (n : ℕ) × (n < length xs) × (slice_index xs n ≡ g)). inl (suc w.0, up w.0 w.1, w.2))
    (λ (h : (n : ℕ) → n < length xs → slice_index xs n ≢ g). inr (λ n below same. none ne h n below same))
    (stands_or_not g xs))
    (cases_eq x g)
  where
    up : (n : ℕ) → n < length xs → suc n < suc (length xs)
    up n below = omega arith

    none : x ≢ g → ((n : ℕ) → n < length xs → slice_index xs n ≢ g) → (n : ℕ) → n < suc (length xs) → slice_index (x ∷ xs) n ≡ g → ⊥
    none ne h zero below same = ne same
    none ne h (suc n) below same = h n (omega arith) same

-- ---- who is one of some is the one of a place
pub one_at : (g : ℕ) (xs : List ℕ) → is_one_of g xs ≡ true → (n : ℕ) × (n < length xs) × (slice_index xs n ≡ g)
one_at g [] h = absurd (true≢false (sym h))
one_at g (x ∷ xs) h = split (x == g) refl h (one_at g xs)
  where
    split : (b : Bool) → (x == g) ≡ b → b || is_one_of g xs ≡ true → (is_one_of g xs ≡ true → (n : ℕ) × (n < length xs) × (slice_index xs n ≡ g)) → (n : ℕ) × (n < suc (length xs)) × (slice_index (x ∷ xs) n ≡ g)
    split true e k more = (zero, omega arith, grind (arith, e))
    split false e k more = let w = more k in (suc w.0, up w.0 w.1, w.2)
      where
        up : (n : ℕ) → n < length xs → suc n < suc (length xs)
        up n below = omega arith

-- ---- one flight more is left
module _ {L V : Type 0} (q : ℕ) (flights : List ℕ) (rows : BTreeMap ℕ (Row L V)) where
  pub part_more : (i : ℕ) (now next : BTreeMap ℕ (Row L V)) → IsStrictlyIncreasing flights → i < length flights
      → ((n : ℕ) → n < i → Parts q (get nat_cmp rows (slice_index flights n)) (get nat_cmp now (slice_index flights n)))
      → ((g : ℕ) → ((n : ℕ) → n < i → slice_index flights n ≢ g) → get nat_cmp now g ≡ get nat_cmp rows g)
      → Parts q (get nat_cmp now (slice_index flights i)) (get nat_cmp next (slice_index flights i))
      → ((g : ℕ) → g ≢ slice_index flights i → get nat_cmp next g ≡ get nat_cmp now g)
      → ((n : ℕ) → n < i + 1 → Parts q (get nat_cmp rows (slice_index flights n)) (get nat_cmp next (slice_index flights n)))
      × ((g : ℕ) → ((n : ℕ) → n < i + 1 → slice_index flights n ≢ g) → get nat_cmp next g ≡ get nat_cmp rows g)
  part_more i now next rising below parted others here same = (
    (λ n less. ⊎_elim
        (λ (e : n ≡ i). subst (λ m. Parts q (get nat_cmp rows (slice_index flights m)) (get nat_cmp next (slice_index flights m))) (sym e)
        (subst (λ (o : Option (Row L V)). Parts q o (get nat_cmp next (slice_index flights i))) (others (slice_index flights i) (λ m before e. apart m before e)) here))
        (λ (ne : n ≢ i). subst (λ (o : Option (Row L V)). Parts q (get nat_cmp rows (slice_index flights n)) o) (sym (same (slice_index flights n) (λ e. apart n (omega arith) e))) (parted n (omega arith)))
        (cases_eq n i)),
    (λ g none. same g (λ e. none i (omega arith) (sym e)) ∙ others g (λ n before. none n (omega arith))),
  )
    where
      apart : (m : ℕ) → m < i → slice_index flights m ≡ slice_index flights i → ⊥
      apart m before e = let less = rises flights m i rising before below in absurd (omega arith)

-- who is none of some is left out of none
pub all_but_none : (q : ℕ) (xs : List ℕ) → is_one_of q xs ≡ false → all_but q xs ≡ xs
all_but_none q [] h = refl
all_but_none q (x ∷ xs) h = split (x == q) h (all_but_none q xs)
  where
    split : (b : Bool) → b || is_one_of q xs ≡ false → (is_one_of q xs ≡ false → all_but q xs ≡ xs) → cond (not b) (x ∷ all_but q xs) (all_but q xs) ≡ x ∷ xs
    split true k more = absurd (true≢false k)
    split false k more = ap (λ l. x ∷ l) (more k)

-- a query parts from a row that it does not await, which stays
pub parts_nothing : {L V : Type 0} (q : ℕ) (o : Option (Row L V)) → ((r : Row L V) → o ≡ Some r → is_one_of q r.queries.items ≡ false) → Parts q o o
parts_nothing q None free = refl
parts_nothing q (Some r) free = inl (r, refl, refl, sym (all_but_none q r.queries.items (free r refl)), refl, refl)
