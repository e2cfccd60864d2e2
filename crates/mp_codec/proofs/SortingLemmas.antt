-- A stable sort has one result, which is the list sorted.
use Rattle.std.proofs.Common.{◌≡◌, refl, sym, ◌∙◌, ap, subst, ℕ, zero, suc, ◌+◌, ◌<◌, ◌≤◌, Bool, true, false, not, cond, ◌&&◌, List, [], ◌∷◌, length, get_or, filter, arith, true≢false}
use Rattle.std.specs.Prelude.{⊤}
use Rattle.std.specs.Cmp.{IsStrictWeakOrder}
use Rattle.std.specs.List.Sorted.{IsSortedBy, IsStableBy, ties}
use Rattle.std.proofs.lemmas.List.Sorted.{sorted_far}
use Rattle.gateway_words.specs.Sorting.{placed_by, sorted_by}

module _ {X : Type 0} (lt : X → X → Bool) (o : IsStrictWeakOrder lt) where
  -- what a filter gives first stands in the list
  stands : (p : X → Bool) (xs : List X) (z : X) (zs : List X) → filter p xs ≡ z ∷ zs → (i : ℕ) × (i < length xs) × ((d : X) → get_or xs i d ≡ z)
  stands p [] z zs e = absurd cc
  stands p (x ∷ xs) z zs e = go (p x) refl e (λ h. stands p xs z zs h)
    where
      go : (b : Bool) → p x ≡ b → cond (p x) (x ∷ filter p xs) (filter p xs) ≡ z ∷ zs → (filter p xs ≡ z ∷ zs → (i : ℕ) × (i < length xs) × ((d : X) → get_or xs i d ≡ z)) → (i : ℕ) × (i < suc (length xs)) × ((d : X) → get_or (x ∷ xs) i d ≡ z)
      go true g e later = let f : x ∷ filter p xs ≡ z ∷ zs = rw g at e in (0, omega arith, (λ d. let same : x ≡ z = cc in same))
      go false g e later = let f : filter p xs ≡ z ∷ zs = rw g at e in let r = later f in (suc r.0, omega (arith, r.1), r.2)

  not_less : (x : X) (b : Bool) → lt x x ≡ b → lt x x ≡ false
  not_less x true e = o.one_way x x e
  not_less x false e = e

  ties_self : (x : X) → ties lt x x ≡ true
  ties_self x = ap (λ (b : Bool). not b && not b) (not_less x (lt x x) refl)

  -- nothing in a sorted list is less than its first element
  first_least : (x : X) (xs : List X) → IsSortedBy lt (x ∷ xs) → (p : X → Bool) (z : X) (zs : List X) → filter p (x ∷ xs) ≡ z ∷ zs → lt z x ≡ false
  first_least x xs up p z zs e =
      let s = stands p (x ∷ xs) z zs e in
      ap (λ (u : X). lt u x) (sym (s.2 x)) ∙ sorted_far lt o (x ∷ xs) up 0 s.0 x (omega arith) s.1

  tail_sorted : (x : X) (xs : List X) → IsSortedBy lt (x ∷ xs) → IsSortedBy lt xs
  tail_sorted x xs up k d low high = let h : suc k + 1 ≡ suc (k + 1) = omega arith in subst (λ (i : ℕ). lt (get_or (x ∷ xs) i d) (get_or xs k d) ≡ false) h (up (suc k) d (omega arith) (omega arith))

  keeps : (b : Bool) (x : X) (u v : List X) → cond b (x ∷ u) u ≡ cond b (x ∷ v) v → u ≡ v
  keeps true x u v e = cc
  keeps false x u v e = e

  -- a stable sort has one result
  pub one_sort : (xs ys : List X) → IsSortedBy lt xs → IsSortedBy lt ys → IsStableBy lt xs ys → xs ≡ ys
  one_sort [] [] a b s = refl
  one_sort [] (y ∷ ys) a b s = absurd (let h : y ∷ filter (ties lt y) ys ≡ [] = ap (λ (c : Bool). cond c (y ∷ filter (ties lt y) ys) (filter (ties lt y) ys)) (sym (ties_self y)) ∙ s y in cc)
  one_sort (x ∷ xs) [] a b s = absurd (let h : [] ≡ x ∷ filter (ties lt x) xs = s x ∙ ap (λ (c : Bool). cond c (x ∷ filter (ties lt x) xs) (filter (ties lt x) xs)) (ties_self x) in cc)
  one_sort (x ∷ xs) (y ∷ ys) a b s =
      let fx : filter (ties lt x) (x ∷ xs) ≡ x ∷ filter (ties lt x) xs = ap (λ (c : Bool). cond c (x ∷ filter (ties lt x) xs) (filter (ties lt x) xs)) (ties_self x) in
      let fy : filter (ties lt y) (y ∷ ys) ≡ y ∷ filter (ties lt y) ys = ap (λ (c : Bool). cond c (y ∷ filter (ties lt y) ys) (filter (ties lt y) ys)) (ties_self y) in
      let xy : lt x y ≡ false = first_least y ys b (ties lt x) x (filter (ties lt x) xs) (s x ∙ fx) in
      let yx : lt y x ≡ false = first_least x xs a (ties lt y) y (filter (ties lt y) ys) (sym (s y) ∙ fy) in
      let tie : ties lt x y ≡ true = ap (λ (c : Bool). not c && not (lt y x)) xy ∙ ap (λ (c : Bool). true && not c) yx in
      let both : x ∷ filter (ties lt x) xs ≡ y ∷ filter (ties lt x) ys = sym fx ∙ sym (s x) ∙ ap (λ (c : Bool). cond c (y ∷ filter (ties lt x) ys) (filter (ties lt x) ys)) tie in
      let same : x ≡ y = cc in
      let rest : xs ≡ ys = one_sort xs ys (tail_sorted x xs a) (tail_sorted y ys b)
      (λ z. keeps (ties lt z y) y (filter (ties lt z) ys) (filter (ties lt z) xs) (s z ∙ ap (λ (u : X). cond (ties lt z u) (u ∷ filter (ties lt z) xs) (filter (ties lt z) xs)) same)) in
      cc

  -- ---- the list sorted

  -- the first element of a list is not less than y, if there is one
  abbrev IsBehind : X → List X → Type 0
  IsBehind y [] = ⊤
  IsBehind y (x ∷ xs) = lt x y ≡ false

  put_in_front : (y : X) (xs : List X) → IsBehind y xs → IsSortedBy lt xs → IsSortedBy lt (y ∷ xs)
  put_in_front y [] h up k d low high = absurd (omega (arith, high))
  put_in_front y (x ∷ xs) h up zero d low high = h
  put_in_front y (x ∷ xs) h up (suc k) d low high =
      let at : suc (k + 1) ≡ suc k + 1 = omega arith in
      subst (λ (i : ℕ). lt (get_or (y ∷ x ∷ xs) i d) (get_or (x ∷ xs) k d) ≡ false) at (up k d (omega arith) (omega (arith, high)))

  front_of : (y : X) (xs : List X) → IsSortedBy lt (y ∷ xs) → IsBehind y xs
  front_of y [] up = tt
  front_of y (x ∷ xs) up = up 0 y (omega arith) (omega arith)

  placed_behind : (y x : X) (xs : List X) → lt x y ≡ false → IsBehind y xs → IsBehind y (placed_by lt x xs)
  placed_behind y x [] h b = h
  placed_behind y x (z ∷ zs) h b = go (lt z x)
    where
      go : (c : Bool) → IsBehind y (cond c (z ∷ placed_by lt x zs) (x ∷ z ∷ zs))
      go true = b
      go false = h

  placed_sorted : (x : X) (xs : List X) → IsSortedBy lt xs → IsSortedBy lt (placed_by lt x xs)
  placed_sorted x [] up = λ k d low high. absurd (omega (arith, high))
  placed_sorted x (y ∷ ys) up = go (lt y x) refl (placed_sorted x ys (tail_sorted y ys up))
    where
      go : (c : Bool) → lt y x ≡ c → IsSortedBy lt (placed_by lt x ys) → IsSortedBy lt (cond c (y ∷ placed_by lt x ys) (x ∷ y ∷ ys))
      go true e later = put_in_front y (placed_by lt x ys) (placed_behind y x ys (o.one_way y x e) (front_of y ys up)) later
      go false e later = put_in_front x (y ∷ ys) e up

  -- the list sorted is sorted
  pub sorted_is_sorted : (xs : List X) → IsSortedBy lt (sorted_by lt xs)
  sorted_is_sorted [] = λ k d low high. absurd (omega (arith, high))
  sorted_is_sorted (x ∷ xs) = placed_sorted x (sorted_by lt xs) (sorted_is_sorted xs)

  both_tie : (z x y : X) → ties lt z x ≡ true → ties lt z y ≡ true → lt y x ≡ false
  both_tie z x y a b = o.chain y z x (right (lt z y) (lt y z) b) (left (lt z x) (lt x z) a)
    where
      left : (p q : Bool) → not p && not q ≡ true → p ≡ false
      left true q e = absurd cc
      left false q e = refl

      right : (p q : Bool) → not p && not q ≡ true → q ≡ false
      right true q e = absurd cc
      right false true e = absurd cc
      right false false e = refl

  placed_stable : (z x : X) (xs : List X) → filter (ties lt z) (placed_by lt x xs) ≡ filter (ties lt z) (x ∷ xs)
  placed_stable z x [] = refl
  placed_stable z x (y ∷ ys) = go (lt y x) refl (ties lt z x) refl (ties lt z y) refl (placed_stable z x ys)
    where
      rest : List X
      rest = filter (ties lt z) ys

      with_y : Bool → List X → List X
      with_y b zs = cond b (y ∷ zs) zs

      with_x : Bool → List X → List X
      with_x b zs = cond b (x ∷ zs) zs

      swap : (a b : Bool) → (a ≡ true → b ≡ true → ⊥) → with_y b (with_x a rest) ≡ with_x a (with_y b rest)
      swap true true differ = absurd (differ refl refl)
      swap true false _ = refl
      swap false b _ = refl

      go : (c : Bool) → lt y x ≡ c → (a : Bool) → ties lt z x ≡ a → (b : Bool) → ties lt z y ≡ b
          → filter (ties lt z) (placed_by lt x ys) ≡ with_x (ties lt z x) rest
          → filter (ties lt z) (cond c (y ∷ placed_by lt x ys) (x ∷ y ∷ ys)) ≡ with_x (ties lt z x) (with_y (ties lt z y) rest)
      go false e a p b q later = refl
      go true e a p b q later =
          ap (with_y (ties lt z y)) later
          ∙ swap (ties lt z x) (ties lt z y) (λ s t. true≢false (sym e ∙ both_tie z x y s t))

  -- elements that tie stand in the list sorted as they stood
  pub sorted_is_stable : (xs : List X) → IsStableBy lt xs (sorted_by lt xs)
  sorted_is_stable [] z = refl
  sorted_is_stable (x ∷ xs) z =
      placed_stable z x (sorted_by lt xs)
      ∙ ap (λ (zs : List X). cond (ties lt z x) (x ∷ zs) zs) (sorted_is_stable xs z)

  -- what a stable sort gives is the list sorted
  pub is_sorted_by : (stood xs : List X) → IsSortedBy lt xs → IsStableBy lt stood xs → xs ≡ sorted_by lt stood
  is_sorted_by stood xs up stable =
      one_sort xs (sorted_by lt stood) up (sorted_is_sorted stood) (λ z. sorted_is_stable stood z ∙ sym (stable z))
