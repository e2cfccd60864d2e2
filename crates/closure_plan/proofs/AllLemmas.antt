-- What holds of all of a list of lists.
use Rattle.std.proofs.Common.{◌≡◌, ℕ, zero, suc, ◌+◌, ◌<◌, ◌≤◌, Bool, true, false, ◌||◌, List, [], ◌∷◌, ◌++◌, map, flat_map, refl, sym, subst, true≢false, arith}
use Rattle.std.specs.List.{AllByRecursion, list_any, range_with_len}
use Rattle.closure_plan.proofs.NameLemmas.{or_left, or_right}

module _ {Y : Type 0} (P : Y → Type 0) where
  pub all_append : (xs ys : List Y) → AllByRecursion P xs → AllByRecursion P ys → AllByRecursion P (xs ++ ys)
  all_append [] ys a b = b
  all_append (x ∷ xs) ys a b = (a.0, all_append xs ys a.1 b)

  all_front : (xs ys : List Y) → AllByRecursion P (xs ++ ys) → AllByRecursion P xs
  all_front [] ys a = tt
  all_front (x ∷ xs) ys a = (a.0, all_front xs ys a.1)

  all_back : (xs ys : List Y) → AllByRecursion P (xs ++ ys) → AllByRecursion P ys
  all_back [] ys a = a
  all_back (x ∷ xs) ys a = all_back xs ys a.1

  module _ {X : Type 0} (same : X → X → Bool) (one : (x y : X) → same x y ≡ true → x ≡ y) (itself : (x : X) → same x x ≡ true) (f : X → List Y) where
    pub all_part : (xs : List X) (x : X) → list_any (same x) xs ≡ true → AllByRecursion P (flat_map f xs) → AllByRecursion P (f x)
    all_part [] x here a = absurd (true≢false (sym here))
    all_part (y ∷ ys) x here a = elim (same x y) as (λ b. same x y ≡ b → (b || list_any (same x) ys) ≡ true → AllByRecursion P (f x)) [
      | true ↦ λ e _. subst (λ z. AllByRecursion P (f z)) (sym (one x y e)) (all_front (f y) (flat_map f ys) a)
      | false ↦ λ _ later. all_part ys x later (all_back (f y) (flat_map f ys) a)
    ] refl here

    pub all_whole : (xs : List X) → ((x : X) → list_any (same x) xs ≡ true → AllByRecursion P (f x)) → AllByRecursion P (flat_map f xs)
    all_whole [] each = tt
    all_whole (x ∷ xs) each = all_append (f x) (flat_map f xs) (each x (or_left (same x x) (list_any (same x) xs) (itself x)))
        (all_whole xs (λ y here. each y (or_right (same y x) (list_any (same y) xs) here)))

pub all_mapped : {X Y : Type 0} (P : Y → Type 0) (f : X → Y) (xs : List X) → AllByRecursion P (map f xs) → AllByRecursion (λ x. P (f x)) xs
all_mapped P f [] a = tt
all_mapped P f (x ∷ xs) a = (a.0, all_mapped P f xs a.1)

pub all_unmapped : {X Y : Type 0} (P : Y → Type 0) (f : X → Y) (xs : List X) → AllByRecursion (λ x. P (f x)) xs → AllByRecursion P (map f xs)
all_unmapped P f [] a = tt
all_unmapped P f (x ∷ xs) a = (a.0, all_unmapped P f xs a.1)

-- numbers from a on, so many
pub all_numbers : (P : ℕ → Type 0) (a k : ℕ) → ((i : ℕ) → a ≤ i → i < a + k → P i) → AllByRecursion P (range_with_len a k)
all_numbers P a zero each = tt
all_numbers P a (suc k) each = (each a (omega arith) (omega arith), all_numbers P (a + 1) k (λ i low high. each i (omega arith) (omega arith)))

pub all_lists : {X Y : Type 0} (P : Y → Type 0) (f : X → List Y) (xs : List X) → AllByRecursion (λ x. AllByRecursion P (f x)) xs → AllByRecursion P (flat_map f xs)
all_lists P f [] all = tt
all_lists P f (x ∷ xs) all = all_append P (f x) (flat_map f xs) all.0 (all_lists P f xs all.1)
