-- A list that is sorted by what a function gives of its elements, as the list of what it gives.
use Rattle.std.proofs.Common.{◌≡◌, refl, sym, ◌∙◌, ap, ◌+◌, ◌<◌, Bool, true, false, not, cond, ◌&&◌, List, [], ◌∷◌, map, length, get_or, filter, arith}
use Rattle.std.specs.Cmp.{IsStrictWeakOrder}
use Rattle.std.specs.List.Sorted.{IsSortedBy, IsStableBy, ties}
use Rattle.std.proofs.lemmas.List.{get_or-map, length-map}

-- the first element that a filter lets through passes its test
first_passes : {X : Type 0} (p : X → Bool) (xs : List X) (a : X) (rest : List X) → filter p xs ≡ a ∷ rest → p a ≡ true
first_passes p [] a rest e = absurd cc
first_passes {X} p (x ∷ xs) a rest e = go (p x) refl e (λ h. first_passes p xs a rest h)
  where
    go : (b : Bool) → p x ≡ b → cond b (x ∷ filter p xs) (filter p xs) ≡ a ∷ rest → (filter p xs ≡ a ∷ rest → p a ≡ true) → p a ≡ true
    go true t e later = let same : x ≡ a = cc in ap p (sym same) ∙ t
    go false t e later = later e

-- tests that agree let the same through
same_filter : {X : Type 0} (p q : X → Bool) (xs : List X) → ((x : X) → p x ≡ q x) → filter p xs ≡ filter q xs
same_filter p q [] same = refl
same_filter {X} p q (x ∷ xs) same =
    ap (λ (b : Bool). cond b (x ∷ filter p xs) (filter p xs)) (same x) ∙ ap (λ (rest : List X). cond (q x) (x ∷ rest) rest) (same_filter p q xs same)

module _ {X Y : Type 0} (f : X → Y) (lt : Y → Y → Bool) where
  -- the order by what f gives
  abbrev pub over : X → X → Bool
  over a b = lt (f a) (f b)

  -- a filter of what f gives
  filter_mapped : (p : Y → Bool) (xs : List X) → filter p (map f xs) ≡ map f (filter (λ x. p (f x)) xs)
  filter_mapped p [] = refl
  filter_mapped p (x ∷ xs) = go (p (f x)) (filter_mapped p xs)
    where
      go : (b : Bool) → filter p (map f xs) ≡ map f (filter (λ x. p (f x)) xs)
          → cond b (f x ∷ filter p (map f xs)) (filter p (map f xs)) ≡ map f (cond b (x ∷ filter (λ x. p (f x)) xs) (filter (λ x. p (f x)) xs))
      go true e = ap (λ (ys : List Y). f x ∷ ys) e
      go false e = e

  pub sorted_mapped : (xs : List X) → IsSortedBy over xs → IsSortedBy lt (map f xs)
  sorted_mapped [] up k d low high = absurd (omega arith)
  sorted_mapped (x ∷ xs) up k d low high =
      let len : length (map f (x ∷ xs)) ≡ length (x ∷ xs) = length-map (x ∷ xs) f in
      let inside : k + 1 < length (x ∷ xs) = omega (arith, high) in
      let before : k < length (x ∷ xs) = omega arith in
      ap (λ (y : Y). lt y (get_or (map f (x ∷ xs)) k d)) (get_or-map f (x ∷ xs) (k + 1) x d inside)
      ∙ ap (λ (y : Y). lt (f (get_or (x ∷ xs) (k + 1) x)) y) (get_or-map f (x ∷ xs) k x d before)
      ∙ up k x low inside

  module _ (order : IsStrictWeakOrder lt) where
    both_false : (b c : Bool) → (b ≡ false → c ≡ false) → (c ≡ false → b ≡ false) → b ≡ c
    both_false true true r l = refl
    both_false true false r l = l refl
    both_false false true r l = sym (r refl)
    both_false false false r l = refl

    not_true : (b c : Bool) → (not b && not c) ≡ true → (b ≡ false) × (c ≡ false)
    not_true false false e = (refl, refl)
    not_true false true e = absurd cc
    not_true true c e = absurd cc

    -- what ties with one of two that tie ties with the other
    ties_same : (y z u : Y) → ties lt y z ≡ true → ties lt y u ≡ ties lt z u
    ties_same y z u t =
        let apart = not_true (lt y z) (lt z y) t in
        let front : lt y u ≡ lt z u = both_false (lt y u) (lt z u) (λ e. order.chain z y u apart.1 e) (λ e. order.chain y z u apart.0 e) in
        let back : lt u y ≡ lt u z = both_false (lt u y) (lt u z) (λ e. order.chain u y z e apart.0) (λ e. order.chain u z y e apart.1) in
        ap (λ (b : Bool). not b && not (lt u y)) front ∙ ap (λ (b : Bool). not (lt z u) && not b) back

    -- those that tie with one element stand in both lists alike
    alike_at : (y : Y) (xs ys : List X) (a : X) → IsStableBy over xs ys → ties lt y (f a) ≡ true → filter (λ x. ties lt y (f x)) ys ≡ filter (λ x. ties lt y (f x)) xs
    alike_at y xs ys a stable t =
        let same : (x : X) → ties lt y (f x) ≡ ties over a x = λ x. ties_same y (f a) (f x) t in
        same_filter _ _ ys same ∙ stable a ∙ sym (same_filter _ _ xs same)

    alike : (y : Y) (xs ys : List X) → IsStableBy over xs ys → filter (λ x. ties lt y (f x)) ys ≡ filter (λ x. ties lt y (f x)) xs
    alike y xs ys stable = go (filter (λ x. ties lt y (f x)) ys) (filter (λ x. ties lt y (f x)) xs) refl refl
      where
        p : X → Bool
        p x = ties lt y (f x)

        go : (us vs : List X) → filter p ys ≡ us → filter p xs ≡ vs → filter p ys ≡ filter p xs
        go [] [] e h = e ∙ sym h
        go [] (v ∷ vs) e h = alike_at y xs ys v stable (first_passes p xs v vs h)
        go (u ∷ us) vs e h = alike_at y xs ys u stable (first_passes p ys u us e)

    pub stable_mapped : (xs ys : List X) → IsStableBy over xs ys → IsStableBy lt (map f xs) (map f ys)
    stable_mapped xs ys stable y = filter_mapped (ties lt y) ys ∙ ap (map f) (alike y xs ys stable) ∙ sym (filter_mapped (ties lt y) xs)
