-- Numbers by name.
use Rattle.std.proofs.Common.{◌≡◌, ◌⊎◌, inl, inr, ℕ, zero, suc, ◌+◌, ◌<◌, ◌≤◌, arith, Bool, true, false, ◌||◌, ◌&&◌, T, List, [], ◌∷◌, ◌++◌, length, map, take, drop, append_assoc, refl, sym, ap, subst, ◌∙◌, Result, Ok, Err, ltb, ltb-true, ltb-false}
use Rattle.std.specs.List.{All, AllByRecursion, insert, slice_index_or}
use Rattle.std.specs.List.Sorted.{IsSortedBy, IsNonDecreasingBy, IsPartitionPoint, IsBinarySearchResult, IsSearchInRange}
use Rattle.std.specs.Ordering.{is_lt, is_eq, ordering_index, ordering_reverse}
use Rattle.std.specs.Prelude.{IfOk, IfErr, is_ok}
use Rattle.std.specs.FinMap.Entries as entries
use Rattle.std.specs.declared.cmp.Ordering.{Ordering}
use Rattle.std.specs.declared.cmp.Ordering.TheVariants.{Less, Equal, Greater}
use Rattle.std.proofs.Math.ListN.{get_or-map}
use Rattle.std.proofs.lemmas.Cmp.{nat_list_cmp_total}
use Rattle.std.proofs.lemmas.List.{take_more, take_all, length-map, length-append, map-append, get_or_append_left, get_or-append-add}
use Rattle.std.proofs.lemmas.List.Elements.{All-nil, All-weaker, All-append, All-take, All-drop, All-cons, recursion_from_All}
use Rattle.std.proofs.lemmas.List.Folds.{list_any_at}
use Rattle.std.proofs.lemmas.List.Sorted.{searchable_from_sorted}
use Rattle.closure_plan.specs.Names.{Name, by_bytes, is_name, has_name, with_name, ascending}
use Rattle.closure_plan.specs.Plan.{name_at}
use Rattle.closure_plan.specs.Fresh.{IsOrder}
use Rattle.closure_plan.proofs.NameLemmas.{Rises, pairs, one_name, same_names, has-ascending, has-with_name, rises-ascending, rises-with_name, ascending_push, place_step}

module _ (names fresh : List Name) where
  kept_names : (order : List ℕ) → AllByRecursion (λ k. k < length names) order → map (name_at (names ++ fresh)) order ≡ map (name_at names) order
  kept_names [] a = refl
  kept_names (k ∷ ks) a = ap (λ n. n ∷ map (name_at (names ++ fresh)) ks) (get_or_append_left names fresh [] k a.0) ∙ ap (λ ns. name_at names k ∷ ns) (kept_names ks a.1)

  -- numbers by name are such where more names have numbers
  pub order_kept : (listed : List Name) (order : List ℕ) → map (name_at names) order ≡ ascending listed → All (λ k. k < length names) order → IsOrder (names ++ fresh) listed order
  order_kept listed order is within = record {
    is = kept_names order (recursion_from_All (λ k. k < length names) order within) ∙ is;
    within = All-weaker (λ k. k < length names) (λ k. k < length (names ++ fresh)) (λ k l. let e = length-append names fresh in omega arith) order within;
  }

pub map_take : (f : ℕ → Name) (xs : List ℕ) (i : ℕ) → map f (take i xs) ≡ take i (map f xs)
map_take f xs zero = refl
map_take f [] (suc i) = refl
map_take f (x ∷ xs) (suc i) = ap (λ ys. f x ∷ ys) (map_take f xs i)

pub map_drop : (f : ℕ → Name) (xs : List ℕ) (i : ℕ) → map f (drop i xs) ≡ drop i (map f xs)
map_drop f xs zero = refl
map_drop f [] (suc i) = refl
map_drop f (x ∷ xs) (suc i) = map_drop f xs i

split : (xs : List ℕ) (i : ℕ) → take i xs ++ drop i xs ≡ xs
split xs zero = refl
split [] (suc i) = refl
split (x ∷ xs) (suc i) = ap (λ ys. x ∷ ys) (split xs i)

map_insert : (f : ℕ → Name) (order : List ℕ) (at k : ℕ) → map f (insert order at k) ≡ insert (map f order) at (f k)
map_insert f order at k = map-append f (take at order) (k ∷ drop at order) ∙ ap (λ xs. xs ++ f k ∷ map f (drop at order)) (map_take f order at) ∙ ap (λ xs. take at (map f order) ++ f k ∷ xs) (map_drop f order at)

pub ok_on : {A E : Type 0} (r : Result A E) (P Q : A → Type 0) → ((x : A) → P x → Q x) → IfOk r P → IfOk r Q
ok_on (Ok x) P Q f p = f x p
ok_on (Err e) P Q f p = p

pub second_of : (a b : Bool) → T (a && b) → T b
second_of true b t = t
second_of false b t = absurd t

pub first_of : (a b : Bool) → T (a && b) → T a
first_of true b t = tt
first_of false b t = t

less : (o : Ordering) → T (is_lt o) → o ≡ Less
less Less t = refl
less Equal t = absurd t
less Greater t = absurd t

-- ---- a binary search

below_at : (x : Name) (xs : List Name) → T (entries.below_all by_bytes x (pairs xs)) → (k : ℕ) (d : Name) → k < length xs → by_bytes x (slice_index_or xs k d) ≡ Less
below_at x [] h k d l = absurd (omega arith)
below_at x (y ∷ ys) h zero d l = less (by_bytes x y) (first_of (is_lt (by_bytes x y)) (entries.below_all by_bytes x (pairs ys)) h)
below_at x (y ∷ ys) h (suc k) d l = below_at x ys (second_of (is_lt (by_bytes x y)) (entries.below_all by_bytes x (pairs ys)) h) k d (omega arith)

rises_at : (xs : List Name) → Rises xs → (k : ℕ) (d : Name) → suc k < length xs → by_bytes (slice_index_or xs k d) (slice_index_or xs (suc k) d) ≡ Less
rises_at [] h k d l = absurd (omega arith)
rises_at (x ∷ xs) h zero d l = below_at x xs (first_of (entries.below_all by_bytes x (pairs xs)) (entries.is_sorted by_bytes (pairs xs)) h) 0 d (omega arith)
rises_at (x ∷ xs) h (suc k) d l = rises_at xs (second_of (entries.below_all by_bytes x (pairs xs)) (entries.is_sorted by_bytes (pairs xs)) h) k d (omega arith)

back_of : (n m : Name) → by_bytes n m ≡ ordering_reverse (by_bytes m n)
back_of n m = nat_list_cmp_total.antisymm n m

-- a name between those of a list
with_between : (n : Name) (xs : List Name) (at : ℕ) (d : Name) → at ≤ length xs
    → ((k : ℕ) → k < at → by_bytes (slice_index_or xs k d) n ≡ Less)
    → ((k : ℕ) → at ≤ k → k < length xs → by_bytes (slice_index_or xs k d) n ≡ Greater)
    → with_name n xs ≡ insert xs at n
with_between n [] zero d l low high = refl
with_between n [] (suc at) d l low high = absurd (omega arith)
with_between n (x ∷ xs) zero d l low high = place_step n x xs Less (back_of n x ∙ ap ordering_reverse (high 0 (omega arith) (omega arith)))
with_between n (x ∷ xs) (suc at) d l low high =
    place_step n x xs Greater (back_of n x ∙ ap ordering_reverse (low 0 (omega arith)))
    ∙ ap (λ ns. x ∷ ns) (with_between n xs at d (omega arith) (λ k lt. low (suc k) (omega arith)) (λ k le lt. high (suc k) (omega arith) (omega arith)))

-- a name that stands in a list
with_known : (n : Name) (xs : List Name) → Rises xs → has_name xs n ≡ true → with_name n xs ≡ xs
with_known n xs h i = same_names (with_name n xs) xs (rises-with_name n xs h) h (λ q. has-with_name q n xs ∙ known q)
  where
    known : (q : Name) → (is_name q n || has_name xs q) ≡ has_name xs q
    known q = elim (is_name q n) as (λ b. is_name q n ≡ b → (b || has_name xs q) ≡ has_name xs q) [
      | true ↦ λ same. sym (ap (has_name xs) (one_name q n same) ∙ i)
      | false ↦ λ _. refl
    ] refl

-- how the name of a number compares to a name
abbrev pub compared : (ℕ → Name) → Name → ℕ → Ordering
compared f n k = by_bytes (f k) n

module _ (f : ℕ → Name) (n : Name) (order : List ℕ) (listed : List Name) (is : map f order ≡ ascending listed) where
  up : Rises (map f order)
  up = subst Rises (sym is) (rises-ascending listed)

  rising : IsNonDecreasingBy (λ k. ordering_index (compared f n k)) order
  rising = searchable_from_sorted nat_list_cmp_total f order n sorted
    where
      sorted : IsSortedBy (λ a b. is_lt (by_bytes (f a) (f b))) order
      sorted k d low high =
          let len : length (map f order) ≡ length order = length-map order f in
          let one : suc k ≡ k + 1 = omega arith in
          let next : slice_index_or (map f order) (suc k) (f d) ≡ f (slice_index_or order (k + 1) d) = ap (λ j. slice_index_or (map f order) j (f d)) one ∙ get_or-map f order (k + 1) d in
          let here : slice_index_or (map f order) k (f d) ≡ f (slice_index_or order k d) = get_or-map f order k d in
          ap is_lt (back_of (f (slice_index_or order (k + 1) d)) (f (slice_index_or order k d))
          ∙ ap ordering_reverse (ap (λ m. by_bytes m (f (slice_index_or order (k + 1) d))) (sym here) ∙ ap (by_bytes (slice_index_or (map f order) k (f d))) (sym next) ∙ rises_at (map f order) up k (f d) (omega arith)))

  module _ (r : Result ℕ ℕ) (bound : IsSearchInRange r (length order)) (found : IsBinarySearchResult (compared f n) order r) where
    -- a name that was found stands in the list
    pub search_known : (at : ℕ) → r ≡ Ok at → has_name listed n ≡ true
    search_known at e = sym (has-ascending n listed) ∙ ap (λ ns. has_name ns n) (sym is) ∙ in_map (subst (λ (q : Result ℕ ℕ). IsSearchInRange q (length order)) e bound) (subst (λ (q : Result ℕ ℕ). IsBinarySearchResult (compared f n) order q) e found)
      where
        in_map : at < length order → ((d : ℕ) → compared f n (slice_index_or order at d) ≡ Equal) → has_name (map f order) n ≡ true
        in_map l same = let len : length (map f order) ≡ length order = length-map order f in
            list_any_at (is_name n) (map f order) at (f 0) (omega arith)
            (ap is_eq (ap (by_bytes n) (get_or-map f order at 0) ∙ back_of n (f (slice_index_or order at 0)) ∙ ap ordering_reverse (same 0)))

    -- it is put where it stands
    pub search_same : (at : ℕ) → r ≡ Ok at → with_name n (map f order) ≡ map f order
    search_same at e = with_known n (map f order) up (ap (λ ns. has_name ns n) is ∙ has-ascending n listed ∙ search_known at e)

    -- a name that wasn't found goes to the place where the search ended
    pub search_place : (at : ℕ) → r ≡ Err at → with_name n (map f order) ≡ insert (map f order) at n
    search_place at e = between (subst (λ (q : Result ℕ ℕ). IsSearchInRange q (length order)) e bound) (subst (λ (q : Result ℕ ℕ). IsBinarySearchResult (compared f n) order q) e found rising)
      where
        between : at ≤ length order → IsPartitionPoint (λ k. compared f n k ≡ Less) (λ k. compared f n k ≡ Greater) order at → with_name n (map f order) ≡ insert (map f order) at n
        between l parts =
            let len : length (map f order) ≡ length order = length-map order f in
            with_between n (map f order) at (f 0) (omega arith)
            (λ k lt. ap (λ m. by_bytes m n) (get_or-map f order k 0) ∙ parts.0 k 0 (omega arith) lt)
            (λ k le lt. ap (λ m. by_bytes m n) (get_or-map f order k 0) ∙ parts.1 k 0 le (omega arith))

    -- it doesn't stand in the list
    pub search_new : (at : ℕ) → r ≡ Err at → has_name listed n ≡ false
    search_new at e = sym (has-ascending n listed) ∙ ap (λ ns. has_name ns n) (sym is) ∙ none (subst (λ (q : Result ℕ ℕ). IsSearchInRange q (length order)) e bound) (subst (λ (q : Result ℕ ℕ). IsBinarySearchResult (compared f n) order q) e found rising)
      where
        apart : (o : Ordering) → (o ≡ Less) ⊎ (o ≡ Greater) → is_eq (ordering_reverse o) ≡ false
        apart o (inl e) = ap (λ x. is_eq (ordering_reverse x)) e
        apart o (inr e) = ap (λ x. is_eq (ordering_reverse x)) e

        each : (ks : List ℕ) → ((j : ℕ) (d : ℕ) → j < length ks → is_eq (ordering_reverse (compared f n (slice_index_or ks j d))) ≡ false) → has_name (map f ks) n ≡ false
        each [] h = refl
        each (k ∷ ks) h = ap (λ b. b || has_name (map f ks) n) (ap is_eq (back_of n (f k)) ∙ h 0 0 (omega arith)) ∙ each ks (λ j d l. h (suc j) d (omega arith))

        none : at ≤ length order → IsPartitionPoint (λ k. compared f n k ≡ Less) (λ k. compared f n k ≡ Greater) order at → has_name (map f order) n ≡ false
        none l parts = each order (λ j d low. apart (compared f n (slice_index_or order j d)) (elim (ltb j at) as (λ b. ltb j at ≡ b → (compared f n (slice_index_or order j d) ≡ Less) ⊎ (compared f n (slice_index_or order j d) ≡ Greater)) [
          | true ↦ λ t. inl (parts.0 j d (omega arith) (ltb-true _ _ t))
          | false ↦ λ t. inr (parts.1 j d (ltb-false _ _ t) low)
        ] refl))

    -- whether it was found says whether it stands there
    pub search_has : is_ok r ≡ has_name listed n
    search_has = elim r as (λ (q : Result ℕ ℕ). r ≡ q → is_ok q ≡ has_name listed n) [
      | Ok at ↦ λ e. sym (search_known at e)
      | Err at ↦ λ e. sym (search_new at e)
    ] refl

-- where it was found, it has its place
pub search_at : (f : ℕ → Name) (n : Name) (order : List ℕ) (r : Result ℕ ℕ) → IsSearchInRange r (length order) → IsBinarySearchResult (compared f n) order r
    → IfOk r (λ at. (at < length order) × (f (slice_index_or order at 0) ≡ n))
search_at f n order (Ok at) within found = (within, one_name (f (slice_index_or order at 0)) n (ap is_eq (found 0)))
search_at f n order (Err at) within found = tt

module _ (all listed : List Name) (order : List ℕ) (o : IsOrder all listed order) (k : ℕ) (n : Name) (is : name_at all k ≡ n) where
  -- a number more, put into its place
  pub order_put : (at : ℕ) → k < length all → with_name (name_at all k) (map (name_at all) order) ≡ insert (map (name_at all) order) at (name_at all k) → IsOrder all (listed ++ n ∷ []) (insert order at k)
  order_put at l e = record {
    is = map_insert (name_at all) order at k ∙ sym e ∙ ap (with_name (name_at all k)) o.is ∙ ap (λ m. with_name m (ascending listed)) is ∙ sym (ascending_push listed n);
    within = All-append (λ j. j < length all) (take at order) (k ∷ drop at order) (All-take (λ j. j < length all) at order o.within) (All-cons (λ j. j < length all) k (drop at order) l (All-drop (λ j. j < length all) at order o.within));
  }

  -- a name that stands there
  pub order_known : with_name (name_at all k) (map (name_at all) order) ≡ map (name_at all) order → IsOrder all (listed ++ n ∷ []) order
  order_known e = record {
    is = sym e ∙ ap (with_name (name_at all k)) o.is ∙ ap (λ m. with_name m (ascending listed)) is ∙ sym (ascending_push listed n);
    within = o.within;
  }

-- the end of a search is within the list
pub search_end : (r : Result ℕ ℕ) (len : ℕ) → IsSearchInRange r len → IfErr r (λ at. at ≤ len)
search_end (Ok at) len within = tt
search_end (Err at) len within = within

module _ (names : List Name) (n : Name) (order : List ℕ) (r : Result ℕ ℕ) (bound : IsSearchInRange r (length order)) (found : IsBinarySearchResult (compared (name_at names) n) order r) where
  -- whatever names the numbers are of, a name that was found stays where it is
  pub search_known_all : IfOk r (λ _. (listed : List Name) → IsOrder names listed order → with_name n (map (name_at names) order) ≡ map (name_at names) order)
  search_known_all = elim r as (λ (q : Result ℕ ℕ). r ≡ q → IfOk q (λ _. (listed : List Name) → IsOrder names listed order → with_name n (map (name_at names) order) ≡ map (name_at names) order)) [
    | Ok at ↦ λ e listed o. search_same (name_at names) n order listed o.is r bound found at e
    | Err at ↦ λ e. tt
  ] refl

  -- and a new one goes to the place where the search ended
  pub search_new_all : IfErr r (λ at. (listed : List Name) → IsOrder names listed order → with_name n (map (name_at names) order) ≡ insert (map (name_at names) order) at n)
  search_new_all = elim r as (λ (q : Result ℕ ℕ). r ≡ q → IfErr q (λ at. (listed : List Name) → IsOrder names listed order → with_name n (map (name_at names) order) ≡ insert (map (name_at names) order) at n)) [
    | Ok at ↦ λ e. tt
    | Err at ↦ λ e listed o. search_place (name_at names) n order listed o.is r bound found at e
  ] refl

-- ---- some names more, one after another

pub names_more : (names : List Name) (i : ℕ) (order : List ℕ) → i < length names → IsOrder names (take i names ++ name_at names i ∷ []) order → IsOrder names (take (i + 1) names) order
names_more names i order l o = subst (λ ns. IsOrder names ns order) (sym (take_more names i [] l)) o

pub names_end : (names : List Name) (i : ℕ) (order : List ℕ) → length names ≤ i → IsOrder names (take i names) order → IsOrder names names order
names_end names i order l o = subst (λ ns. IsOrder names ns order) (take_all i names l) o

-- no numbers are those of no names
pub no_order : (all : List Name) → IsOrder all [] []
no_order all = record { is = refl; within = All-nil (λ k. k < length all) }
