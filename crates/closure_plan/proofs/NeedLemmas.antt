-- Needs: none stands twice, which numbers are those of needs, and how many needs there are at the end.
use Rattle.std.proofs.Common.{◌≡◌, ◌∙◌, ℕ, zero, suc, ◌+◌, ◌<◌, ◌≤◌, arith, Bool, true, false, cond, ◌||◌, ◌&&◌, T, List, [], ◌∷◌, ◌++◌, length, map, flat_map, Option, Some, None, find, refl, sym, ap, subst, true≢false, eqb, ltb, ltb-true, ltb-false}
use Rattle.std.specs.Prelude.{is_some, ◌↔◌}
use Rattle.std.specs.Cmp.{IsEquivalence}
use Rattle.std.specs.List.{AllByRecursion, IsDistinct, list_any, list_all, range_with_len, count_by, fold}
use Rattle.std.specs.Ordering.{is_eq, is_lt}
use Rattle.std.specs.FinMap.Entries as entries
use Rattle.std.specs.declared.cmp.Ordering.{Ordering}
use Rattle.std.specs.declared.cmp.Ordering.TheVariants.{Less, Equal, Greater}
use Rattle.std.proofs.lemmas.Bool.{eqb-true, eq-eqb}
use Rattle.std.specs.Option.{option_map}
use Rattle.std.proofs.lemmas.List.{length-append, length-map}
use Rattle.std.proofs.lemmas.List.FromFn.{length-map-range_with_len}
use Rattle.std.proofs.lemmas.List.Elements.{recursion_from_All}
use Rattle.std.proofs.lemmas.List.Folds.{list_any-append, list_any_at}
use Rattle.std.proofs.lemmas.Map.Made.{length-le_from_is_member}
use Rattle.std.proofs.lemmas.Map.Keys.{IsDistinct-from_apart, IsDistinct-head, IsDistinct-tail, IsDistinct-cons}
use Rattle.closure_request.specs.Request.{Asking, root_names}
use Rattle.closure_request.specs.Slots.{numbers, slots}
use Rattle.closure_plan.specs.Names.{Name, ascending, by_bytes, is_name, has_name}
use Rattle.closure_plan.specs.Rounds.{reached}
use Rattle.closure_plan.specs.Given.{Pins, LeafRows, is_at, pin_at, wanted}
use Rattle.closure_plan.specs.Closure.{leads_to, reach, targets}
use Rattle.closure_plan.specs.Needs.{Wish, the_index, the_shard, needs, shards_of, same_wish, has_wish, is_given}
use Rattle.closure_plan.specs.Plan.{HasNumber, IsLeaf, IsNeed, IsReached, Known, Placed, given_count, is_same_leaf, its_done, its_leaves, its_needs, its_pins, leaf_of, leaves_of, name_at, pins_of, wish_of}
use Rattle.closure_plan.specs.declared.need.Need.{Need}
use Rattle.closure_plan.specs.declared.need.Need.TheVariants as need
use Rattle.shard_file.specs.Rows as shards
use Rattle.shard_index.specs.Index as indexes
use Rattle.closure_plan.proofs.AllLemmas.{all_append, all_unmapped}
use Rattle.closure_plan.proofs.NameLemmas.{Rises, pairs, itself, one_name, or_left, or_right, or_cases, has-ascending, rises-ascending}
use Rattle.closure_plan.proofs.OrderLemmas.{first_of, second_of}
use Rattle.closure_plan.proofs.PinLemmas.{wanted_within}
use Rattle.closure_plan.proofs.RoundLemmas.{rises-rounds}

-- ---- two needs

and_true : (a b : Bool) → (a && b) ≡ true → (a ≡ true) × (b ≡ true)
and_true true b e = (refl, e)
and_true false b e = absurd (true≢false (sym e))

pub one_wish : (x y : Wish) → same_wish x y ≡ true → x ≡ y
one_wish (the_index s) (the_index t) e = ap the_index (eqb-true s t e)
one_wish (the_index s) (the_shard t m) e = absurd (true≢false (sym e))
one_wish (the_shard s n) (the_index t) e = absurd (true≢false (sym e))
one_wish (the_shard s n) (the_shard t m) e =
    let both = and_true (eqb s t) (is_name n m) e in
    ap (λ k. the_shard k n) (eqb-true s t both.0) ∙ ap (the_shard t) (one_name n m both.1)

pub wish_itself : (x : Wish) → same_wish x x ≡ true
wish_itself (the_index s) = eq-eqb s s refl
wish_itself (the_shard s n) = ap (λ b. b && is_name n n) (eq-eqb s s refl) ∙ itself n

pub wishes : IsEquivalence same_wish
wishes = record {
  refl = wish_itself;
  symm = λ x y. both_ways (same_wish x y) (same_wish y x) (λ e. subst (λ z. same_wish z x ≡ true) (one_wish x y e) (wish_itself x)) (λ e. subst (λ z. same_wish z y ≡ true) (one_wish y x e) (wish_itself y));
  congr = λ x y z e. ap (λ w. same_wish w z) (one_wish x y e);
}
  where
    both_ways : (s t : Bool) → (s ≡ true → t ≡ true) → (t ≡ true → s ≡ true) → s ≡ t
    both_ways true t f g = sym (f refl)
    both_ways false true f g = g refl
    both_ways false false f g = refl

-- ---- no need stands twice

none_twice : {K : Type 0} (e : K → K → Bool) → IsDistinct e []
none_twice e = IsDistinct-from_apart e [] (λ i j d l m. absurd (omega arith))

-- two lists of needs that have none in common
distinct_both : (xs ys : List Wish) → IsDistinct same_wish xs → IsDistinct same_wish ys
    → AllByRecursion (λ x. AllByRecursion (λ y. same_wish x y ≡ false) ys) xs → IsDistinct same_wish (xs ++ ys)
distinct_both [] ys dx dy a = dy
distinct_both (x ∷ xs) ys dx dy a =
    IsDistinct-cons same_wish x (xs ++ ys) (all_append (λ y. same_wish x y ≡ false) xs ys (IsDistinct-head same_wish x xs dx) a.0)
    (distinct_both xs ys (IsDistinct-tail same_wish x xs dx) dy a.1)

lower : (a b : ℕ) → a < b → eqb a b ≡ false
lower a b l = elim (eqb a b) as (λ t. eqb a b ≡ t → t ≡ false) [
  | true ↦ λ e. let same : a ≡ b = eqb-true a b e in absurd (omega arith)
  | false ↦ λ e. refl
] refl

later_indexes : (a b k : ℕ) → a < b → AllByRecursion (λ y. same_wish (the_index a) y ≡ false) (map the_index (range_with_len b k))
later_indexes a b zero l = tt
later_indexes a b (suc k) l = (lower a b l, later_indexes a (b + 1) k (omega arith))

distinct_indexes : (a k : ℕ) → IsDistinct same_wish (map the_index (range_with_len a k))
distinct_indexes a zero = none_twice same_wish
distinct_indexes a (suc k) = IsDistinct-cons same_wish (the_index a) (map the_index (range_with_len (a + 1) k)) (later_indexes a (a + 1) k (omega arith)) (distinct_indexes (a + 1) k)

module _ (w : ℕ → Bool) (n : Name) where
  -- the shard of a name in a slot, where it is needed
  abbrev pub shard_if : ℕ → List Wish
  shard_if s = cond (w s) (the_shard s n ∷ []) []

  later_shards : (a b k : ℕ) → a < b → AllByRecursion (λ y. same_wish (the_shard a n) y ≡ false) (flat_map shard_if (range_with_len b k))
  later_shards a b zero l = tt
  later_shards a b (suc k) l =
      let rest = later_shards a (b + 1) k (omega arith) in
      elim (w b) as (λ t. AllByRecursion (λ y. same_wish (the_shard a n) y ≡ false) (cond t (the_shard b n ∷ []) [] ++ flat_map shard_if (range_with_len (b + 1) k))) [
        | true ↦ (ap (λ t. t && is_name n n) (lower a b l), rest)
        | false ↦ rest
      ]

  distinct_shards : (a k : ℕ) → IsDistinct same_wish (flat_map shard_if (range_with_len a k))
  distinct_shards a zero = none_twice same_wish
  distinct_shards a (suc k) =
      let rest = distinct_shards (a + 1) k in
      elim (w a) as (λ t. IsDistinct same_wish (cond t (the_shard a n ∷ []) [] ++ flat_map shard_if (range_with_len (a + 1) k))) [
        | true ↦ IsDistinct-cons same_wish (the_shard a n) (flat_map shard_if (range_with_len (a + 1) k)) (later_shards a (a + 1) k (omega arith)) rest
        | false ↦ rest
      ]

  -- what holds of the name's shards in all slots holds of each that is needed
  each_shard : (P : Wish → Type 0) → ((s : ℕ) → P (the_shard s n)) → (ss : List ℕ) → AllByRecursion P (flat_map shard_if ss)
  each_shard P each [] = tt
  each_shard P each (s ∷ ss) = all_append P (shard_if s) (flat_map shard_if ss) (elim (w s) as (λ t. AllByRecursion P (cond t (the_shard s n ∷ []) [])) [ true ↦ (each s, tt) | false ↦ tt ]) (each_shard P each ss)

module _ (r : Asking) (pins : Pins) where
  -- whether the shard of a name is needed in a slot
  abbrev pub needed : Name → ℕ → Bool
  needed n s = is_some (wanted r pins s n)

  and_false : (b : Bool) → (b && false) ≡ false
  and_false true = refl
  and_false false = refl

  -- shards of other names are other needs
  other_names : (s : ℕ) (n : Name) (ns : List Name) → AllByRecursion (λ m. is_name n m ≡ false) ns → AllByRecursion (λ y. same_wish (the_shard s n) y ≡ false) (flat_map (shards_of r pins) ns)
  other_names s n [] a = tt
  other_names s n (m ∷ ms) a =
      all_append (λ y. same_wish (the_shard s n) y ≡ false) (shards_of r pins m) (flat_map (shards_of r pins) ms)
      (each_shard (needed m) m (λ y. same_wish (the_shard s n) y ≡ false) (λ t. ap (λ b. eqb s t && b) a.0 ∙ and_false (eqb s t)) (numbers r))
      (other_names s n ms a.1)

  distinct_names : (ns : List Name) → IsDistinct is_name ns → IsDistinct same_wish (flat_map (shards_of r pins) ns)
  distinct_names [] d = none_twice same_wish
  distinct_names (n ∷ ns) d =
      distinct_both (shards_of r pins n) (flat_map (shards_of r pins) ns) (distinct_shards (needed n) n 0 (length (slots r))) (distinct_names ns (IsDistinct-tail is_name n ns d))
      (each_shard (needed n) n (λ x. AllByRecursion (λ y. same_wish x y ≡ false) (flat_map (shards_of r pins) ns)) (λ s. other_names s n ns (IsDistinct-head is_name n ns d)) (numbers r))

  no_index : (s : ℕ) (ns : List Name) → AllByRecursion (λ y. same_wish (the_index s) y ≡ false) (flat_map (shards_of r pins) ns)
  no_index s [] = tt
  no_index s (n ∷ ns) = all_append (λ y. same_wish (the_index s) y ≡ false) (shards_of r pins n) (flat_map (shards_of r pins) ns) (each_shard (needed n) n (λ y. same_wish (the_index s) y ≡ false) (λ t. refl) (numbers r)) (no_index s ns)

  index_apart : (a k : ℕ) (ns : List Name) → AllByRecursion (λ x. AllByRecursion (λ y. same_wish x y ≡ false) (flat_map (shards_of r pins) ns)) (map the_index (range_with_len a k))
  index_apart a zero ns = tt
  index_apart a (suc k) ns = (no_index a ns, index_apart (a + 1) k ns)

-- names that rise are distinct
below_names : (x : Name) (xs : List Name) → T (entries.below_all by_bytes x (pairs xs)) → AllByRecursion (λ y. is_name x y ≡ false) xs
below_names x [] h = tt
below_names x (y ∷ ys) h = (less (by_bytes x y) (first_of _ _ h), below_names x ys (second_of _ _ h))
  where
    less : (o : Ordering) → T (is_lt o) → is_eq o ≡ false
    less Less t = refl
    less Equal t = absurd t
    less Greater t = absurd t

pub distinct_rises : (xs : List Name) → Rises xs → IsDistinct is_name xs
distinct_rises [] h = none_twice is_name
distinct_rises (x ∷ xs) h = IsDistinct-cons is_name x xs (below_names x xs (first_of _ _ h)) (distinct_rises xs (second_of _ _ h))

pub rises_reach : (r : Asking) (pins : Pins) (leaves : List LeafRows) → Rises (reach r pins leaves)
rises_reach r pins leaves = elim r.flat as (λ (b : Bool). Rises (cond b (ascending (root_names r)) (reached (leads_to r pins leaves) (targets leaves) (root_names r)))) [
  | true ↦ rises-ascending (root_names r)
  | false ↦ rises-rounds (leads_to r pins leaves) (length (ascending (targets leaves))) (root_names r)
]

pub needs_once : (r : Asking) (pins : Pins) (leaves : List LeafRows) → IsDistinct same_wish (needs r pins leaves)
needs_once r pins leaves =
    distinct_both (map the_index (numbers r)) (flat_map (shards_of r pins) (reach r pins leaves)) (distinct_indexes 0 (length (slots r)))
    (distinct_names r pins (reach r pins leaves) (distinct_rises (reach r pins leaves) (rises_reach r pins leaves)))
    (index_apart r pins 0 (length (slots r)) (reach r pins leaves))

-- ---- which wishes are needs

none_passes : {X : Type 0} (p : X → Bool) (xs : List X) → AllByRecursion (λ x. p x ≡ false) xs → list_any p xs ≡ false
none_passes p [] a = refl
none_passes p (x ∷ xs) a = ap (λ b. b || list_any p xs) a.0 ∙ none_passes p xs a.1

index_there : (s a k : ℕ) → a ≤ s → s < a + k → has_wish (map the_index (range_with_len a k)) (the_index s) ≡ true
index_there s a zero low high = absurd (omega arith)
index_there s a (suc k) low high = elim (eqb s a) as (λ b. eqb s a ≡ b → (b || has_wish (map the_index (range_with_len (a + 1) k)) (the_index s)) ≡ true) [
  | true ↦ λ e. refl
  | false ↦ λ e. index_there s (a + 1) k (above (eqb-apart s a e)) (omega arith)
] refl
  where
    eqb-apart : (m n : ℕ) → eqb m n ≡ false → m ≡ n → ⊥
    eqb-apart m n e same = true≢false (sym (eq-eqb m n same) ∙ e)

    above : (s ≡ a → ⊥) → a + 1 ≤ s
    above f = elim (ltb a s) as (λ b. ltb a s ≡ b → a + 1 ≤ s) [
      | true ↦ λ t. let l : a < s = ltb-true a s t in omega arith
      | false ↦ λ t. let l : s ≤ a = ltb-false a s t in absurd (f (omega arith))
    ] refl

index_back : (s a k : ℕ) → has_wish (map the_index (range_with_len a k)) (the_index s) ≡ true → s < a + k
index_back s a zero e = absurd (true≢false (sym e))
index_back s a (suc k) e = or_cases (eqb s a) (has_wish (map the_index (range_with_len (a + 1) k)) (the_index s)) (s < a + suc k)
    (λ t. let same : s ≡ a = eqb-true s a t in omega arith)
    (λ t. let below : s < a + 1 + k = index_back s (a + 1) k t in omega arith)
    e

module _ (w : ℕ → Bool) (n : Name) where
  shard_there : (s a k : ℕ) → a ≤ s → s < a + k → w s ≡ true → has_wish (flat_map (shard_if w n) (range_with_len a k)) (the_shard s n) ≡ true
  shard_there s a zero low high e = absurd (omega arith)
  shard_there s a (suc k) low high e = elim (ltb a s) as (λ b. ltb a s ≡ b → has_wish (shard_if w n a ++ flat_map (shard_if w n) (range_with_len (a + 1) k)) (the_shard s n) ≡ true) [
    | true ↦ λ t. let l : a < s = ltb-true a s t in
        list_any-append (same_wish (the_shard s n)) (shard_if w n a) (flat_map (shard_if w n) (range_with_len (a + 1) k))
        ∙ or_right (has_wish (shard_if w n a) (the_shard s n)) (has_wish (flat_map (shard_if w n) (range_with_len (a + 1) k)) (the_shard s n)) (shard_there s (a + 1) k (omega arith) (omega arith) e)
    | false ↦ λ t. let l : s ≤ a = ltb-false a s t in let same : a ≡ s = omega arith in
        ap (λ b. has_wish (cond b (the_shard a n ∷ []) [] ++ flat_map (shard_if w n) (range_with_len (a + 1) k)) (the_shard s n)) (ap w same ∙ e)
        ∙ or_left (same_wish (the_shard s n) (the_shard a n)) (has_wish (flat_map (shard_if w n) (range_with_len (a + 1) k)) (the_shard s n)) (ap (λ t. same_wish (the_shard s n) (the_shard t n)) same ∙ wish_itself (the_shard s n))
  ] refl

  shard_back : (s : ℕ) (m : Name) (ss : List ℕ) → has_wish (flat_map (shard_if w n) ss) (the_shard s m) ≡ true → (w s ≡ true) × (m ≡ n)
  shard_back s m [] e = absurd (true≢false (sym e))
  shard_back s m (t ∷ ts) e = elim (w t) as (λ b. w t ≡ b → has_wish (cond b (the_shard t n ∷ []) [] ++ flat_map (shard_if w n) ts) (the_shard s m) ≡ true → (w s ≡ true) × (m ≡ n)) [
    | true ↦ λ f e. or_cases (same_wish (the_shard s m) (the_shard t n)) (has_wish (flat_map (shard_if w n) ts) (the_shard s m)) ((w s ≡ true) × (m ≡ n))
        (λ g. let both = and_true (eqb s t) (is_name m n) g in (ap w (eqb-true s t both.0) ∙ f, one_name m n both.1))
        (λ g. shard_back s m ts g) e
    | false ↦ λ f e. shard_back s m ts e
  ] refl e

module _ (r : Asking) (pins : Pins) where
  shards_there : (s : ℕ) (n : Name) (ns : List Name) → s < length (slots r) → is_some (wanted r pins s n) ≡ true → has_name ns n ≡ true → has_wish (flat_map (shards_of r pins) ns) (the_shard s n) ≡ true
  shards_there s n [] l e i = absurd (true≢false (sym i))
  shards_there s n (m ∷ ms) l e i =
      list_any-append (same_wish (the_shard s n)) (shards_of r pins m) (flat_map (shards_of r pins) ms)
      ∙ or_cases (is_name n m) (has_name ms n) ((has_wish (shards_of r pins m) (the_shard s n) || has_wish (flat_map (shards_of r pins) ms) (the_shard s n)) ≡ true)
      (λ same. or_left (has_wish (shards_of r pins m) (the_shard s n)) (has_wish (flat_map (shards_of r pins) ms) (the_shard s n))
      (ap (λ x. has_wish (shards_of r pins x) (the_shard s n)) (sym (one_name n m same)) ∙ shard_there (needed r pins n) n s 0 (length (slots r)) (omega arith) (omega (arith, l)) e))
      (λ later. or_right (has_wish (shards_of r pins m) (the_shard s n)) (has_wish (flat_map (shards_of r pins) ms) (the_shard s n)) (shards_there s n ms l e later))
      i

  shards_back : (s : ℕ) (n : Name) (ns : List Name) → has_wish (flat_map (shards_of r pins) ns) (the_shard s n) ≡ true → is_some (wanted r pins s n) ≡ true
  shards_back s n [] e = absurd (true≢false (sym e))
  shards_back s n (m ∷ ms) e =
      or_cases (has_wish (shards_of r pins m) (the_shard s n)) (has_wish (flat_map (shards_of r pins) ms) (the_shard s n)) (is_some (wanted r pins s n) ≡ true)
      (λ here. let both = shard_back (needed r pins m) m s n (numbers r) here in ap (λ x. is_some (wanted r pins s x)) both.1 ∙ both.0)
      (λ later. shards_back s n ms later)
      (sym (list_any-append (same_wish (the_shard s n)) (shards_of r pins m) (flat_map (shards_of r pins) ms)) ∙ e)

  no_index_there : (s : ℕ) (ns : List Name) → has_wish (flat_map (shards_of r pins) ns) (the_index s) ≡ false
  no_index_there s ns = none_passes (same_wish (the_index s)) (flat_map (shards_of r pins) ns) (no_index r pins s ns)

  no_shard_there : (s : ℕ) (n : Name) (ss : List ℕ) → has_wish (map the_index ss) (the_shard s n) ≡ false
  no_shard_there s n [] = refl
  no_shard_there s n (t ∷ ts) = no_shard_there s n ts

  -- a shard that is needed is that of a slot
  slot_of_need : (s : ℕ) (n : Name) → length pins ≡ length (slots r) → is_some (wanted r pins s n) ≡ true → s < length (slots r)
  slot_of_need s n count e = subst (λ k. s < k) count (wanted_within r pins s n e)

-- ---- how many needs there are

-- a need of those that are all given is given
given_each : (p : Wish → Bool) (q : Wish) (xs : List Wish) → list_all p xs ≡ true → has_wish xs q ≡ true → p q ≡ true
given_each p q [] a e = absurd (true≢false (sym e))
given_each p q (x ∷ xs) a e =
    let both = and_true (p x) (list_all p xs) a in
    or_cases (same_wish q x) (has_wish xs q) (p q ≡ true) (λ s. ap p (one_wish q x s) ∙ both.0) (λ t. given_each p q xs both.1 t) e

module _ {P : Type 0} (pinned : P → indexes.Contents) where
  counted_from : (n : ℕ) (pins : List (Option P)) → ((s : ℕ) → s < length pins → is_some (pin_at (pins_of pinned pins) s) ≡ true) → fold (λ a x. a + cond (is_some x) 1 0) n pins ≡ n + length pins
  counted_from n [] each = omega arith
  counted_from n (Some p ∷ pins) each = counted_from (n + 1) pins (λ s l. each (suc s) (omega arith)) ∙ omega arith
  counted_from n (None ∷ pins) each = absurd (true≢false (sym (each 0 (omega arith))))

  -- where each slot is pinned, so many pins are there
  all_counted : (pins : List (Option P)) → ((s : ℕ) → s < length pins → is_some (pin_at (pins_of pinned pins) s) ≡ true) → count_by is_some pins ≡ length pins
  all_counted pins each = counted_from 0 pins each ∙ omega arith

module _ {H : Type 0} (held : H → shards.Contents) where
  -- the need of a shard that was given
  abbrev wish_for : Placed H → Wish
  wish_for l = the_shard l.slot l.name

  leaves_once : (leaves : List (Placed H)) → IsDistinct is_same_leaf leaves → IsDistinct same_wish (map wish_for leaves)
  leaves_once [] d = none_twice same_wish
  leaves_once (l ∷ ls) d =
      IsDistinct-cons same_wish (wish_for l) (map wish_for ls) (all_unmapped (λ y. same_wish (wish_for l) y ≡ false) wish_for ls (IsDistinct-head is_same_leaf l ls d))
      (leaves_once ls (IsDistinct-tail is_same_leaf l ls d))

  -- where a shard is found, its need is that of one that was given
  found_given : (s : ℕ) (n : Name) (leaves : List (Placed H)) → is_some (find (is_at s n) (leaves_of held leaves)) ≡ true → has_wish (map wish_for leaves) (the_shard s n) ≡ true
  found_given s n [] e = absurd (true≢false (sym e))
  found_given s n (l ∷ ls) e = elim (is_at s n (leaf_of held l)) as (λ b. is_at s n (leaf_of held l) ≡ b → is_some (cond b (Some (leaf_of held l)) (find (is_at s n) (leaves_of held ls))) ≡ true
      → (same_wish (the_shard s n) (wish_for l) || has_wish (map wish_for ls) (the_shard s n)) ≡ true) [
        | true ↦ λ f _. let both = and_true (eqb l.slot s) (is_name n l.name) f in
            or_left (same_wish (the_shard s n) (wish_for l)) (has_wish (map wish_for ls) (the_shard s n))
            (ap (λ b. b && is_name n l.name) (eq-eqb s l.slot (sym (eqb-true l.slot s both.0))) ∙ both.1)
        | false ↦ λ _ e. or_right (same_wish (the_shard s n) (wish_for l)) (has_wish (map wish_for ls) (the_shard s n)) (found_given s n ls e)
      ] refl e

module _ {P H : Type 0} (pinned : P → indexes.Contents) (held : H → shards.Contents) (k : Known P H) (is : IsReached pinned held k) where
  abbrev pub pins_here : Pins
  pins_here = its_pins pinned held k

  abbrev shard_needs : List Wish
  shard_needs = flat_map (shards_of k.request pins_here) (reach k.request pins_here (its_leaves pinned held k))

  pins_count : length pins_here ≡ length (slots k.request)
  pins_count = length-map k.pins (option_map pinned) ∙ is.each_slot

  in_reach : (n : Name) → has_name k.names n ≡ true → has_name (reach k.request pins_here (its_leaves pinned held k)) n ≡ true
  in_reach n i = ap (λ ns. has_name ns n) (sym is.all_reached) ∙ has-ascending n k.names ∙ i

  split_needs : (x : Wish) → has_wish (its_needs pinned held k) x ≡ (has_wish (map the_index (numbers k.request)) x || has_wish shard_needs x)
  split_needs x = list_any-append (same_wish x) (map the_index (numbers k.request)) shard_needs

  -- a number that is that of a slot or a name is one of a need exactly where its need is one
  pub numbers_are : (m : Need) → HasNumber k.names m → IsNeed k.request pins_here k.names m ↔ (has_wish (its_needs pinned held k) (wish_of k.names m) ≡ true)
  numbers_are (need.Index s) h = (
    (λ l. split_needs (the_index s) ∙ or_left (has_wish (map the_index (numbers k.request)) (the_index s)) (has_wish shard_needs (the_index s)) (index_there s 0 (length (slots k.request)) (omega arith) (omega arith))),
    (λ e. or_cases (has_wish (map the_index (numbers k.request)) (the_index s)) (has_wish shard_needs (the_index s)) (s < length (slots k.request))
        (λ t. let below : s < 0 + length (slots k.request) = index_back s 0 (length (slots k.request)) t in omega arith)
        (λ t. absurd (true≢false (sym t ∙ no_index_there k.request pins_here s (reach k.request pins_here (its_leaves pinned held k)))))
        (sym (split_needs (the_index s)) ∙ e)),
  )
  numbers_are (need.Shard s j) h = (
    (λ is_need. split_needs (the_shard s (name_at k.names j))
        ∙ or_right (has_wish (map the_index (numbers k.request)) (the_shard s (name_at k.names j))) (has_wish shard_needs (the_shard s (name_at k.names j)))
        (shards_there k.request pins_here s (name_at k.names j) (reach k.request pins_here (its_leaves pinned held k))
        (slot_of_need k.request pins_here s (name_at k.names j) pins_count is_need.1) is_need.1
        (in_reach (name_at k.names j) (list_any_at (is_name (name_at k.names j)) k.names j [] h (itself (name_at k.names j)))))),
    (λ e. (
      h,
      or_cases (has_wish (map the_index (numbers k.request)) (the_shard s (name_at k.names j))) (has_wish shard_needs (the_shard s (name_at k.names j)))
          (is_some (wanted k.request pins_here s (name_at k.names j)) ≡ true)
          (λ t. absurd (true≢false (sym t ∙ no_shard_there k.request pins_here s (name_at k.names j) (numbers k.request))))
          (λ t. shards_back k.request pins_here s (name_at k.names j) (reach k.request pins_here (its_leaves pinned held k)) t)
          (sym (split_needs (the_shard s (name_at k.names j))) ∙ e),
    )),
  )

  leaves_needed : (ls : List (Placed H)) → AllByRecursion (IsLeaf held k.request pins_here k.names) ls → (q : Wish) → has_wish (map (wish_for held) ls) q ≡ true → has_wish shard_needs q ≡ true
  leaves_needed [] a q e = absurd (true≢false (sym e))
  leaves_needed (l ∷ ls) a q e = or_cases (same_wish q (the_shard l.slot l.name)) (has_wish (map (wish_for held) ls) q) (has_wish shard_needs q ≡ true)
      (λ same. let needs_it : is_some (wanted k.request pins_here l.slot l.name) ≡ true = ap is_some a.0.digest in
      ap (has_wish shard_needs) (one_wish q (the_shard l.slot l.name) same)
      ∙ shards_there k.request pins_here l.slot l.name (reach k.request pins_here (its_leaves pinned held k)) (slot_of_need k.request pins_here l.slot l.name pins_count needs_it) needs_it (in_reach l.name a.0.reached))
      (λ later. leaves_needed ls a.1 q later)
      e

  -- where each need is given, there are as many as pins and shards
  pub needs_counted : its_done pinned held k ≡ true → length (its_needs pinned held k) ≡ given_count k
  needs_counted done =
      let few : length (map (wish_for held) k.leaves) ≤ length shard_needs
      = length-le_from_is_member wishes (map (wish_for held) k.leaves) shard_needs (leaves_once held k.leaves is.one_leaf) (leaves_needed k.leaves (recursion_from_All (IsLeaf held k.request pins_here k.names) k.leaves is.leaves)) in
      let many : length shard_needs ≤ length (map (wish_for held) k.leaves)
      = length-le_from_is_member wishes shard_needs (map (wish_for held) k.leaves)
      (distinct_names k.request pins_here (reach k.request pins_here (its_leaves pinned held k)) (distinct_rises _ (rises_reach k.request pins_here (its_leaves pinned held k)))) given in
      let leaves : length (map (wish_for held) k.leaves) ≡ length k.leaves = length-map k.leaves (wish_for held) in
      let pins : count_by is_some k.pins ≡ length k.pins = all_counted pinned k.pins pinned_each in
      let indexes : length (map the_index (numbers k.request)) ≡ length (slots k.request) = length-map-range_with_len the_index 0 (length (slots k.request)) in
      let both : length (its_needs pinned held k) ≡ length (map the_index (numbers k.request)) + length shard_needs = length-append (map the_index (numbers k.request)) shard_needs in
      let each : length k.pins ≡ length (slots k.request) = is.each_slot in
      omega arith
    where
      it_is_given : (q : Wish) → has_wish (its_needs pinned held k) q ≡ true → is_given pins_here (its_leaves pinned held k) q ≡ true
      it_is_given q e = given_each (is_given pins_here (its_leaves pinned held k)) q (its_needs pinned held k) done e

      pinned_each : (s : ℕ) → s < length k.pins → is_some (pin_at pins_here s) ≡ true
      pinned_each s l = let each : length k.pins ≡ length (slots k.request) = is.each_slot in
          it_is_given (the_index s) (split_needs (the_index s) ∙ or_left (has_wish (map the_index (numbers k.request)) (the_index s)) (has_wish shard_needs (the_index s)) (index_there s 0 (length (slots k.request)) (omega arith) (omega arith)))

      given : (q : Wish) → has_wish shard_needs q ≡ true → has_wish (map (wish_for held) k.leaves) q ≡ true
      given (the_index s) e = absurd (true≢false (sym e ∙ no_index_there k.request pins_here s (reach k.request pins_here (its_leaves pinned held k))))
      given (the_shard s n) e = found_given held s n k.leaves
          (it_is_given (the_shard s n) (split_needs (the_shard s n) ∙ or_right (has_wish (map the_index (numbers k.request)) (the_shard s n)) (has_wish shard_needs (the_shard s n)) e))
