-- The rows of an answer.
use Rattle.std.proofs.Common.{◌≡◌, ℕ, zero, suc, ◌+◌, ◌<◌, ◌≤◌, arith, Bool, true, false, cond, ◌==◌, List, [], ◌∷◌, ◌++◌, length, map, take, refl, sym, ap, subst, ◌∙◌, true≢false, append_assoc, filter, find, flat_map, Option, Some, None, ltb, ltb-true, ltb-false}
use Rattle.std.specs.Prelude.{is_some}
use Rattle.std.specs.List.{AllByRecursion, range_with_len, slice_get, slice_index_or}
use Rattle.std.specs.Cmp.{unsigned_Decides}
use Rattle.std.proofs.lemmas.List.{map-append}
use Rattle.std.proofs.lemmas.List.Concat.{flat_map-append}
use Rattle.closure_plan.specs.Names.{Name, is_name}
use Rattle.closure_request.specs.Request.{Asking}
use Rattle.closure_plan.specs.declared.answer.RowPlace.{RowPlace}
use Rattle.closure_plan.specs.Given.{Pins, LeafRows, is_at, rows_of, rows_at, wanted, given, given_of}
use Rattle.closure_plan.specs.Closure.{Found, found}
use Rattle.shard_file.specs.Rows.{Row}
use Rattle.std.proofs.lemmas.List.{take_more}
use Rattle.std.proofs.lemmas.List.Elements.{filter-append}
use Rattle.std.proofs.lemmas.Option.{slice_get-get_or, slice_get_within}
use Rattle.closure_plan.specs.Rows.{Adds, IsThere, found_at, given_in, leaf_or_none, no_leaf, no_row, place_if, row_of_place}
use Rattle.closure_plan.proofs.AllLemmas.{all_append}
use Rattle.closure_plan.proofs.NameLemmas.{one_name}
use Rattle.closure_plan.proofs.ArrivalLemmas.{and_first, and_second}

append_none : {A : Type 0} (xs : List A) → xs ++ [] ≡ xs
append_none [] = refl
append_none (x ∷ xs) = ap (λ ys. x ∷ ys) (append_none xs)

pub adds_both : (r : Asking) (leaves : List LeafRows) (a b c : List RowPlace) (xs ys : List Found) → Adds r leaves a b xs → Adds r leaves b c ys → Adds r leaves a c (xs ++ ys)
adds_both r leaves a b c xs ys e f = record {
  are = f.are ∙ ap (λ zs. zs ++ ys) e.are ∙ append_assoc (map (found_at r leaves) a) xs ys;
  there = λ all. f.there (e.there all);
}

-- no rows
pub adds_none : (r : Asking) (leaves : List LeafRows) (a : List RowPlace) → Adds r leaves a a []
adds_none r leaves a = record { are = sym (append_none (map (found_at r leaves) a)); there = λ all. all }

-- the numbers with one more
pub range_more : (a k : ℕ) → range_with_len a (k + 1) ≡ range_with_len a k ++ (a + k) ∷ []
range_more a zero = ap (λ b. b ∷ []) (omega arith)
range_more a (suc k) = let e : suc k + 1 ≡ suc (k + 1) = omega arith in let f : a + 1 + k ≡ a + suc k = omega arith in
    ap (range_with_len a) e ∙ ap (λ xs. a ∷ xs) (range_more (a + 1) k ∙ ap (λ b. range_with_len (a + 1) k ++ b ∷ []) f)

pub flat_map_more : {B : Type 0} (f : ℕ → List B) (k : ℕ) → flat_map f (range_with_len 0 (k + 1)) ≡ flat_map f (range_with_len 0 k) ++ f k
flat_map_more f k = ap (flat_map f) (range_more 0 k) ∙ flat_map-append f (range_with_len 0 k) ((0 + k) ∷ []) ∙ ap (λ xs. flat_map f (range_with_len 0 k) ++ xs) (append_none (f (0 + k)) ∙ ap f (let e : 0 + k ≡ k = omega arith in e))

abbrev or_leaf : LeafRows → Option LeafRows → LeafRows
or_leaf x None = x
or_leaf x (Some y) = y

found_place : (s : ℕ) (n : Name) (leaves : List LeafRows) (l : LeafRows) → Some l ≡ find (is_at s n) leaves → is_at s n l ≡ true
found_place s n [] l e = absurd (true≢false (ap is_some e))
found_place s n (x ∷ xs) l e = elim (is_at s n x) as (λ b. is_at s n x ≡ b → Some l ≡ cond b (Some x) (find (is_at s n) xs) → is_at s n l ≡ true) [
  | true ↦ λ here e. ap (is_at s n) (ap (or_leaf x) e) ∙ here
  | false ↦ λ here e. found_place s n xs l e
] refl e

-- what is found of a name in a slot is what its leaf gives
pub given_by : (r : Asking) (pins : Pins) (leaves : List LeafRows) (s : ℕ) (n : Name) (l : LeafRows)
    → AllByRecursion (λ (l : LeafRows). is_some (wanted r pins l.slot l.name) ≡ true) leaves
    → Some l ≡ find (is_at s n) leaves → given_in r l ≡ map (found r s) (given r pins leaves s n)
given_by r pins leaves s n l all e =
    let here = found_place s n leaves l e in
    let slot : l.slot ≡ s = (unsigned_Decides l.slot s).0 (and_first (l.slot == s) (is_name n l.name) here) in
    let name : n ≡ l.name = one_name n l.name (and_second (l.slot == s) (is_name n l.name) here) in
    let is_wanted : is_some (wanted r pins s n) ≡ true = ap (λ m. is_some (wanted r pins s m)) name ∙ ap (λ t. is_some (wanted r pins t l.name)) (sym slot) ∙ wanted_of leaves all e in
    ap (λ t. map (found r t) (given_of r t l.name l.rows)) slot ∙ ap (λ m. map (found r s) (given_of r s m l.rows)) (sym name)
    ∙ ap (λ rows. map (found r s) (given_of r s n rows)) (ap rows_of e)
    ∙ ap (λ b. map (found r s) (cond b (given_of r s n (rows_at leaves s n)) [])) (sym is_wanted)
  where
    wanted_of : (ls : List LeafRows) → AllByRecursion (λ (l : LeafRows). is_some (wanted r pins l.slot l.name) ≡ true) ls → Some l ≡ find (is_at s n) ls → is_some (wanted r pins l.slot l.name) ≡ true
    wanted_of [] all e = absurd (true≢false (ap is_some e))
    wanted_of (x ∷ xs) all e = elim (is_at s n x) as (λ b. Some l ≡ cond b (Some x) (find (is_at s n) xs) → is_some (wanted r pins l.slot l.name) ≡ true) [
      | true ↦ λ e. ap (λ (y : LeafRows). is_some (wanted r pins y.slot y.name)) (ap (or_leaf x) e) ∙ all.0
      | false ↦ λ e. wanted_of xs all.1 e
    ] e

-- ---- the rows of one leaf

module _ (r : Asking) (leaves : List LeafRows) (i : ℕ) (p : Row → Bool) where
  abbrev leaf : LeafRows
  leaf = leaf_or_none leaves i

  single : (row : ℕ) (x : Row) → x ≡ slice_index_or leaf.rows row no_row → map (found_at r leaves) (place_if p (Some x) (record { slot = leaf.slot; leaf = i; row = row })) ≡ map (found r leaf.slot) (filter p (x ∷ []))
  single row x is = elim (p x) as (λ b. map (found_at r leaves) (cond b (record { slot = leaf.slot; leaf = i; row = row } ∷ []) []) ≡ map (found r leaf.slot) (cond b (x ∷ []) [])) [
    | true ↦ ap (λ y. found r leaf.slot y ∷ []) (sym is)
    | false ↦ refl
  ]

  -- a row more
  pub rows_on : (row : ℕ) → row < length leaf.rows → map (found r leaf.slot) (filter p (take (row + 1) leaf.rows)) ≡ map (found r leaf.slot) (filter p (take row leaf.rows)) ++ map (found_at r leaves) (place_if p (slice_get leaf.rows row) (record { slot = leaf.slot; leaf = i; row = row }))
  rows_on row l =
      let x = slice_index_or leaf.rows row no_row in
      ap (λ xs. map (found r leaf.slot) (filter p xs)) (take_more leaf.rows row no_row l) ∙ ap (map (found r leaf.slot)) (filter-append p (take row leaf.rows) (x ∷ []))
      ∙ map-append (found r leaf.slot) (filter p (take row leaf.rows)) (filter p (x ∷ []))
      ∙ ap (λ ys. map (found r leaf.slot) (filter p (take row leaf.rows)) ++ ys) (sym (single row x refl) ∙ ap (λ o. map (found_at r leaves) (place_if p o (record { slot = leaf.slot; leaf = i; row = row }))) (sym (slice_get-get_or leaf.rows row no_row l)))

  pub adds_row : (a b c : List RowPlace) (row : ℕ) → row < length leaf.rows → Adds r leaves a b (map (found r leaf.slot) (filter p (take row leaf.rows)))
      → c ≡ b ++ place_if p (slice_get leaf.rows row) (record { slot = leaf.slot; leaf = i; row = row })
      → Adds r leaves a c (map (found r leaf.slot) (filter p (take (row + 1) leaf.rows)))
  adds_row a b c row l e f = record {
    there = λ all. subst (AllByRecursion (IsThere leaves)) (sym f) (all_append (IsThere leaves) b (place_if p (slice_get leaf.rows row) (record { slot = leaf.slot; leaf = i; row = row })) (e.there all) (one_there row (slice_get leaf.rows row) refl));
    are =
        ap (map (found_at r leaves)) f ∙ map-append (found_at r leaves) b (place_if p (slice_get leaf.rows row) (record { slot = leaf.slot; leaf = i; row = row }))
        ∙ ap (λ xs. xs ++ map (found_at r leaves) (place_if p (slice_get leaf.rows row) (record { slot = leaf.slot; leaf = i; row = row }))) e.are
        ∙ append_assoc (map (found_at r leaves) a) (map (found r leaf.slot) (filter p (take row leaf.rows))) (map (found_at r leaves) (place_if p (slice_get leaf.rows row) (record { slot = leaf.slot; leaf = i; row = row })))
        ∙ ap (λ xs. map (found_at r leaves) a ++ xs) (sym (rows_on row l));
  }
    where
      one_there : (row : ℕ) (o : Option Row) → slice_get leaf.rows row ≡ o → AllByRecursion (IsThere leaves) (place_if p o (record { slot = leaf.slot; leaf = i; row = row }))
      one_there row None is = tt
      one_there row (Some x) is = elim (p x) as (λ b. AllByRecursion (IsThere leaves) (cond b (record { slot = leaf.slot; leaf = i; row = row } ∷ []) [])) [
        | true ↦ (ap is_some is, tt)
        | false ↦ tt
      ]

-- ---- a place of an answer

pub read_beyond : {X : Type 0} (xs : List X) (i : ℕ) (d : X) → length xs ≤ i → slice_index_or xs i d ≡ d
read_beyond [] i d le = refl
read_beyond (x ∷ xs) zero d le = absurd (omega arith)
read_beyond (x ∷ xs) (suc i) d le = read_beyond xs i d (omega arith)

-- the leaf of a place that is there is there
pub leaf_there : (leaves : List LeafRows) (at : RowPlace) → IsThere leaves at → at.leaf < length leaves
leaf_there leaves at here = elim (ltb at.leaf (length leaves)) as (λ b. ltb at.leaf (length leaves) ≡ b → at.leaf < length leaves) [
  | true ↦ λ e. ltb-true _ _ e
  | false ↦ λ e. absurd (true≢false (sym here ∙ ap (λ (l : LeafRows). is_some (slice_get l.rows at.row)) (read_beyond leaves at.leaf no_leaf (ltb-false _ _ e))))
] refl

-- what stands at a place that is there
pub row_there : (leaves : List LeafRows) (at : RowPlace) (x : Row) → slice_get (leaf_or_none leaves at.leaf).rows at.row ≡ Some x → row_of_place leaves at ≡ x
row_there leaves at x e =
    let low = slice_get_within (leaf_or_none leaves at.leaf).rows at.row x e in
    let both : Some (slice_index_or (leaf_or_none leaves at.leaf).rows at.row no_row) ≡ Some x = sym (slice_get-get_or (leaf_or_none leaves at.leaf).rows at.row no_row low) ∙ e in
    cc
