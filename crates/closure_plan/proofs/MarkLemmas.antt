-- There is room for each mark.
use Rattle.std.proofs.Common.{◌≡◌, ℕ, ◌+◌, ◌*◌, ◌<◌, Bool, true, false, cond, ◌||◌, ◌==◌, List, [], ◌∷◌, ◌++◌, map, length, refl, sym, ap, subst, ◌∙◌, true≢false, arith, filter}
use Rattle.std.specs.Prelude.{eqb}
use Rattle.std.specs.List.{list_any, IsDistinct, AllByRecursion}
use Rattle.std.specs.Cmp.{unsigned_Decides}
use Rattle.std.proofs.lemmas.List.{length-map, map-append}
use Rattle.std.proofs.lemmas.Map.Keys.{IsDistinct-head, IsDistinct-tail, IsDistinct-cons, IsDistinct-from_apart}
use Rattle.std.proofs.lemmas.Map.Steps.{length-le_from_distinct_below}
use Rattle.std.proofs.lemmas.Nat.{row_fits, same_from_place}
use Rattle.closure_plan.specs.declared.need.Need.{Need}
use Rattle.closure_plan.specs.declared.need.Need.TheVariants as need
use Rattle.closure_plan.specs.Names.{Name}
use Rattle.closure_request.specs.Request.{Asking}
use Rattle.closure_request.specs.Slots.{slots}
use Rattle.closure_plan.specs.Given.{Pins}
use Rattle.closure_plan.specs.Plan.{IsNeed, name_at, same_need, has_need}
use Rattle.closure_plan.specs.Inside.{place_of}
use Rattle.closure_plan.proofs.ArrivalLemmas.{and_first, and_second, and_both}
use Rattle.closure_plan.proofs.PinLemmas.{wanted_within}

module _ (r : Asking) (pins : Pins) (names : List Name) (each_slot : length pins ≡ length (slots r)) where
  abbrev n : ℕ
  n = length (slots r)

  pub slot_below : (s k : ℕ) → IsNeed r pins names (need.Shard s k) → s < n
  slot_below s k i = subst (λ m. s < m) each_slot (wanted_within r pins s (name_at names k) i.1)

  -- a need's place is below the number of places
  pub place_below : (m : Need) → IsNeed r pins names m → place_of n m < (length names + 1) * n
  place_below (need.Index s) i = let l : s < n = i in let f = row_fits 0 n (length names + 1) n (omega arith) (omega arith) in omega arith
  place_below (need.Shard s k) i = let l = slot_below s k i in let f = row_fits (k + 1) n (length names + 1) n (let h = i.0 in omega arith) (omega arith) in omega arith

  -- needs at one place are one
  pub place_apart : (a b : Need) → IsNeed r pins names a → IsNeed r pins names b → same_need a b ≡ false → eqb (place_of n a) (place_of n b) ≡ false
  place_apart (need.Index s) (need.Index t) i j e = e
  place_apart (need.Index s) (need.Shard t m) i j e = let l : s < n = i in let f = row_fits 0 n (m + 1) n (omega arith) (omega arith) in grind (arith)
  place_apart (need.Shard s k) (need.Index t) i j e = let l : t < n = j in let f = row_fits 0 n (k + 1) n (omega arith) (omega arith) in grind (arith)
  place_apart (need.Shard s k) (need.Shard t m) i j e =
      elim (eqb ((k + 1) * n + s) ((m + 1) * n + t)) as (λ b. eqb ((k + 1) * n + s) ((m + 1) * n + t) ≡ b → b ≡ false) [
        | true ↦ λ same.
            let both = same_from_place (k + 1) s (m + 1) t n (slot_below s k i) (slot_below t m j) ((unsigned_Decides _ _).0 same) in
            let k_is : k ≡ m = let h = both.0 in omega arith in
            absurd (true≢false (sym (and_both (s == t) (k == m) ((unsigned_Decides s t).1 both.1) ((unsigned_Decides k m).1 k_is)) ∙ e))
        | false ↦ λ same. refl
      ] refl

-- ---- places that differ

flipped : (p q : ℕ) → eqb p q ≡ false → eqb q p ≡ false
flipped p q e = elim (eqb q p) as (λ b. eqb q p ≡ b → b ≡ false) [
  | true ↦ λ s. absurd (true≢false (sym ((unsigned_Decides p q).1 (sym ((unsigned_Decides q p).0 s))) ∙ e))
  | false ↦ λ _. refl
] refl

turned : (p : ℕ) (xs : List ℕ) → AllByRecursion (λ x. eqb x p ≡ false) xs → AllByRecursion (λ x. eqb p x ≡ false) xs
turned p [] h = tt
turned p (x ∷ xs) h = (flipped x p h.0, turned p xs h.1)

distinct_push : (xs : List ℕ) (y : ℕ) → IsDistinct eqb xs → AllByRecursion (λ x. eqb x y ≡ false) xs → IsDistinct eqb (xs ++ y ∷ [])
distinct_push [] y d a = IsDistinct-cons eqb y [] tt d
distinct_push (x ∷ xs) y d a = IsDistinct-cons eqb x (xs ++ y ∷ []) (push_one x xs (IsDistinct-head eqb x xs d) a.0) (distinct_push xs y (IsDistinct-tail eqb x xs d) a.1)
  where
    push_one : (x : ℕ) (xs : List ℕ) → AllByRecursion (λ z. eqb x z ≡ false) xs → eqb x y ≡ false → AllByRecursion (λ z. eqb x z ≡ false) (xs ++ y ∷ [])
    push_one x [] h e = (e, tt)
    push_one x (z ∷ zs) h e = (h.0, push_one x zs h.1 e)

all_filtered : {X : Type 0} (f : X → ℕ) (p : X → Bool) (x : ℕ) (ys : List X) → AllByRecursion (λ z. eqb x z ≡ false) (map f ys) → AllByRecursion (λ z. eqb x z ≡ false) (map f (filter p ys))
all_filtered f p x [] a = a
all_filtered f p x (y ∷ ys) a = elim (p y) as (λ b. AllByRecursion (λ z. eqb x z ≡ false) (map f (cond b (y ∷ filter p ys) (filter p ys)))) [
  | true ↦ (a.0, all_filtered f p x ys a.1)
  | false ↦ all_filtered f p x ys a.1
]

-- what is left of different places differs
pub distinct_filtered : {X : Type 0} (f : X → ℕ) (p : X → Bool) (ys : List X) → IsDistinct eqb (map f ys) → IsDistinct eqb (map f (filter p ys))
distinct_filtered f p [] d = d
distinct_filtered f p (y ∷ ys) d = elim (p y) as (λ b. IsDistinct eqb (map f (cond b (y ∷ filter p ys) (filter p ys)))) [
  | true ↦ IsDistinct-cons eqb (f y) (map f (filter p ys)) (all_filtered f p (f y) ys (IsDistinct-head eqb (f y) (map f ys) d)) (distinct_filtered f p ys (IsDistinct-tail eqb (f y) (map f ys) d))
  | false ↦ distinct_filtered f p ys (IsDistinct-tail eqb (f y) (map f ys) d)
]

below_all : (xs : List ℕ) (m : ℕ) → AllByRecursion (λ x. x < m) xs → (q : ℕ) → list_any (eqb q) xs ≡ true → q < m
below_all [] m a q e = absurd (true≢false (sym e))
below_all (x ∷ xs) m a q e = elim (eqb q x) as (λ b. eqb q x ≡ b → (b || list_any (eqb q) xs) ≡ true → q < m) [
  | true ↦ λ same _. subst (λ z. z < m) (sym ((unsigned_Decides q x).0 same)) a.0
  | false ↦ λ _ e. below_all xs m a.1 q e
] refl e

module _ (r : Asking) (pins : Pins) (names : List Name) (each_slot : length pins ≡ length (slots r)) where
  abbrev places : List Need → List ℕ
  places ms = map (place_of (length (slots r))) ms

  all_below : (ms : List Need) → AllByRecursion (IsNeed r pins names) ms → AllByRecursion (λ x. x < (length names + 1) * length (slots r)) (places ms)
  all_below [] a = tt
  all_below (m ∷ ms) a = (place_below r pins names each_slot m a.0, all_below ms a.1)

  all_apart : (m : Need) → IsNeed r pins names m → (ms : List Need) → AllByRecursion (IsNeed r pins names) ms → has_need ms m ≡ false → AllByRecursion (λ x. eqb x (place_of (length (slots r)) m) ≡ false) (places ms)
  all_apart m i [] a e = tt
  all_apart m i (x ∷ xs) a e = elim (same_need m x) as (λ b. same_need m x ≡ b → (b || has_need xs m) ≡ false → AllByRecursion (λ x. eqb x (place_of (length (slots r)) m) ≡ false) (places (x ∷ xs))) [
    | true ↦ λ _ e. absurd (true≢false e)
    | false ↦ λ same e. (flipped (place_of (length (slots r)) m) (place_of (length (slots r)) x) (place_apart r pins names each_slot m x i a.0 same), all_apart m i xs a.1 e)
  ] refl e

  -- one mark more stands at a place of its own
  pub apart_more : (ms : List Need) (m : Need) → AllByRecursion (IsNeed r pins names) ms → IsNeed r pins names m → has_need ms m ≡ false → IsDistinct eqb (places ms) → IsDistinct eqb (places (ms ++ m ∷ []))
  apart_more ms m a i e d = subst (IsDistinct eqb) (sym (map-append (place_of (length (slots r))) ms (m ∷ []))) (distinct_push (places ms) (place_of (length (slots r)) m) d (all_apart m i ms a e))

  -- there are fewer marks than places, where one more can be made
  pub room_for_one : (ms : List Need) (m : Need) → AllByRecursion (IsNeed r pins names) ms → IsNeed r pins names m → has_need ms m ≡ false → IsDistinct eqb (places ms) → length ms < (length names + 1) * length (slots r)
  room_for_one ms m a i e d =
      let all : AllByRecursion (λ x. x < (length names + 1) * length (slots r)) (place_of (length (slots r)) m ∷ places ms) = (place_below r pins names each_slot m i, all_below ms a) in
      let apart : IsDistinct eqb (place_of (length (slots r)) m ∷ places ms) = IsDistinct-cons eqb (place_of (length (slots r)) m) (places ms) (turned (place_of (length (slots r)) m) (places ms) (all_apart m i ms a e)) d in
      let l = length-le_from_distinct_below (place_of (length (slots r)) m ∷ places ms) ((length names + 1) * length (slots r)) apart (below_all (place_of (length (slots r)) m ∷ places ms) ((length names + 1) * length (slots r)) all) in
      let k : length (places ms) ≡ length ms = length-map ms (place_of (length (slots r))) in
      omega arith

pub same_is : (a b : Need) → same_need a b ≡ true → a ≡ b
same_is (need.Index s) (need.Index t) e = ap (λ k. need.Index k) ((unsigned_Decides s t).0 e)
same_is (need.Index s) (need.Shard t m) e = absurd (true≢false (sym e))
same_is (need.Shard s k) (need.Index t) e = absurd (true≢false (sym e))
same_is (need.Shard s k) (need.Shard t m) e =
    ap (λ x. need.Shard x k) ((unsigned_Decides s t).0 (and_first (s == t) (k == m) e)) ∙ ap (λ x. need.Shard t x) ((unsigned_Decides k m).0 (and_second (s == t) (k == m) e))

-- what holds of each mark holds of a marked need
pub marked_is : (P : Need → Type 0) (m : Need) (ms : List Need) → AllByRecursion P ms → has_need ms m ≡ true → P m
marked_is P m [] all e = absurd (true≢false (sym e))
marked_is P m (x ∷ xs) all e = elim (same_need m x) as (λ b. same_need m x ≡ b → (b || has_need xs m) ≡ true → P m) [
  | true ↦ λ same e. subst P (sym (same_is m x same)) all.0
  | false ↦ λ same e. marked_is P m xs all.1 e
] refl e

-- needs at places that differ differ
pub once_of : (n : ℕ) (ms : List Need) → IsDistinct eqb (map (place_of n) ms) → IsDistinct same_need ms
once_of n [] d = IsDistinct-from_apart same_need [] (λ i j e l m. absurd (omega arith))
once_of n (m ∷ ms) d = IsDistinct-cons same_need m ms (others ms (IsDistinct-head eqb (place_of n m) (map (place_of n) ms) d)) (once_of n ms (IsDistinct-tail eqb (place_of n m) (map (place_of n) ms) d))
  where
    others : (xs : List Need) → AllByRecursion (λ z. eqb (place_of n m) z ≡ false) (map (place_of n) xs) → AllByRecursion (λ x. same_need m x ≡ false) xs
    others [] a = tt
    others (x ∷ xs) a = (
      elim (same_need m x) as (λ b. same_need m x ≡ b → b ≡ false) [
        | true ↦ λ same. absurd (true≢false (sym ((unsigned_Decides (place_of n m) (place_of n x)).1 (ap (place_of n) (same_is m x same))) ∙ a.0))
        | false ↦ λ _. refl
      ] refl,
      others xs a.1,
    )
