-- A search among rows that ascend by file ends at the twin, or where there is none.
use Rattle.std.proofs.Common.{◌≡◌, refl, sym, ◌∙◌, ap, ℕ, zero, suc, ◌+◌, ◌<◌, ◌≤◌, Bool, true, false, cond, ◌&&◌, List, [], ◌∷◌, ◌++◌, map, length, take, drop, get_or, ltb, leb, arith, Some, None, true≢false}
use Rattle.std.specs.Prelude.{nat_lt}
use Rattle.std.specs.List.{position, position_or_len, slice_get}
use Rattle.std.specs.List.Sorted.{IsSortedBy, IsPartitionedBy, IsNonDecreasingBy}
use Rattle.std.specs.Ordering.{is_lt, is_le, is_eq, nat_cmp, ordering_index, ordering_then}
use Rattle.std.specs.declared.cmp.Ordering.{Ordering}
use Rattle.std.specs.declared.cmp.Ordering.TheVariants.{Less, Equal, Greater}
use Rattle.std.specs.Cmp.Lexicographic.{slice_cmp}
use Rattle.std.specs.Str.{bytes_eq, str_eq_ignore_ascii_case}
use Rattle.std.proofs.lemmas.Bool.{lt-ltb, le-ltb}
use Rattle.std.proofs.lemmas.Cmp.{nat_list_cmp_total}
use Rattle.std.proofs.lemmas.List.Sorted.{searchable_from_sorted, IsPartitionedBy-leb, IsPartitionedBy-ltb}
use Rattle.std.proofs.Math.ListN.{get_or-map}
use Rattle.std.proofs.lemmas.List.{length-map}
use Rattle.std.proofs.lemmas.List.Sums.{position_or_len_is}
use Rattle.std.proofs.lemmas.Option.{slice_get-get_or}
use Rattle.std.proofs.lemmas.Map.Text.{is_eq-slice_cmp}
use Rattle.shard_file.specs.Rows.{Row, file_lt}
use Rattle.shard_file.specs.Twin.{is_newer, row_passes}

-- ---- comparing with two texts behind one another

-- a shorter text compares to the first of them alone
pub cmp_shorter : (a b c : List ℕ) → length a < length b → slice_cmp nat_cmp a (b ++ c) ≡ slice_cmp nat_cmp a b
cmp_shorter a [] c lt = absurd (omega arith)
cmp_shorter [] (y ∷ ys) c lt = refl
cmp_shorter (x ∷ xs) (y ∷ ys) c lt = ap (ordering_then (nat_cmp x y)) (cmp_shorter xs ys c (omega arith))

then_then : (a b c : Ordering) → ordering_then a (ordering_then b c) ≡ ordering_then (ordering_then a b) c
then_then Less b c = refl
then_then Equal b c = refl
then_then Greater b c = refl

-- a text that is no shorter compares by its front, and then by the rest
pub cmp_joined : (a b c : List ℕ) → length b ≤ length a → slice_cmp nat_cmp a (b ++ c) ≡ ordering_then (slice_cmp nat_cmp (take (length b) a) b) (slice_cmp nat_cmp (drop (length b) a) c)
cmp_joined a [] c le = refl
cmp_joined [] (y ∷ ys) c le = absurd (omega arith)
cmp_joined (x ∷ xs) (y ∷ ys) c le =
    ap (ordering_then (nat_cmp x y)) (cmp_joined xs ys c (omega arith))
    ∙ then_then (nat_cmp x y) (slice_cmp nat_cmp (take (length ys) xs) ys) (slice_cmp nat_cmp (drop (length ys) xs) c)

-- ---- tests of an order

lt_index : (o : Ordering) → is_lt o ≡ ltb (ordering_index o) 1
lt_index Less = refl
lt_index Equal = refl
lt_index Greater = refl

le_index : (o : Ordering) → is_le o ≡ leb (ordering_index o) 1
le_index Less = refl
le_index Equal = refl
le_index Greater = refl

pub lt_unequal : (o : Ordering) → is_lt o ≡ true → is_eq o ≡ false
lt_unequal Less e = refl
lt_unequal Equal e = absurd (true≢false (sym e))
lt_unequal Greater e = refl

pub gt_unequal : (o : Ordering) → is_le o ≡ false → is_eq o ≡ false
gt_unequal Less e = refl
gt_unequal Equal e = absurd (true≢false e)
gt_unequal Greater e = refl

-- ---- rows that are seen through a function

module _ {X : Type 0} (f : X → Row) (t : List ℕ) where
  -- how the file of an element compares to a text
  abbrev pub compared : X → Ordering
  compared x = slice_cmp nat_cmp (f x).file t

  unmapped : (xs : List X) → IsSortedBy file_lt (map f xs) → IsSortedBy (λ a b. file_lt (f a) (f b)) xs
  unmapped xs up k d low high =
      let len : length (map f xs) ≡ length xs = length-map xs f in
      let next : get_or (map f xs) (k + 1) (f d) ≡ f (get_or xs (k + 1) d) = get_or-map f xs (k + 1) d in
      let here : get_or (map f xs) k (f d) ≡ f (get_or xs k d) = get_or-map f xs k d in
      ap (λ (r : Row). file_lt r (f (get_or xs k d))) (sym next) ∙ ap (file_lt (get_or (map f xs) (k + 1) (f d))) (sym here)
      ∙ up k (f d) low (omega arith)

  rising : (xs : List X) → IsSortedBy file_lt (map f xs) → IsNonDecreasingBy (λ x. ordering_index (compared x)) xs
  rising xs up = searchable_from_sorted nat_list_cmp_total (λ x. (f x).file) xs t (unmapped xs up)

  pub lt_parted : (xs : List X) → IsSortedBy file_lt (map f xs) → IsPartitionedBy (λ x. is_lt (compared x)) xs
  lt_parted xs up i j d le lt e =
      lt_index (compared (get_or xs i d))
      ∙ IsPartitionedBy-ltb (λ x. ordering_index (compared x)) xs 1 (rising xs up) i j d le lt (sym (lt_index (compared (get_or xs j d))) ∙ e)

  pub le_parted : (xs : List X) → IsSortedBy file_lt (map f xs) → IsPartitionedBy (λ x. is_le (compared x)) xs
  le_parted xs up i j d le lt e =
      le_index (compared (get_or xs i d))
      ∙ IsPartitionedBy-leb (λ x. ordering_index (compared x)) xs 1 (rising xs up) i j d le lt (sym (le_index (compared (get_or xs j d))) ∙ e)

  -- an element whose file is another isn't the twin
  pub not_newer : (name : List ℕ) (xs : List X) (k : ℕ) → ((d : X) → k < length xs → is_eq (compared (get_or xs k d)) ≡ false)
      → row_passes (is_newer t name) (slice_get (map f xs) k) ≡ false
  not_newer name [] k other = refl
  not_newer name (x ∷ xs) zero other = unnamed (f x).conda (bytes_eq (f x).file t) (str_eq_ignore_ascii_case (f x).fields.name name)
      (sym (is_eq-slice_cmp (f x).file t) ∙ other x (omega arith))
    where
      unnamed : (a b c : Bool) → b ≡ false → (a && (b && c)) ≡ false
      unnamed true b c e = ap (λ z. z && c) e
      unnamed false b c e = refl
  not_newer name (x ∷ xs) (suc k) other = not_newer name xs k (λ d l. other d (omega arith))

-- ---- the first place that passes

passes_at : (p : Row → Bool) (rows : List Row) (k : ℕ) (d : Row) → k < length rows → row_passes p (slice_get rows k) ≡ p (get_or rows k d)
passes_at p rows k d l = ap (row_passes p) (slice_get-get_or rows k d l)

passes_within : (p : Row → Bool) (rows : List Row) (k : ℕ) → row_passes p (slice_get rows k) ≡ true → k < length rows
passes_within p [] k e = absurd (true≢false (sym e))
passes_within p (x ∷ xs) zero e = omega arith
passes_within p (x ∷ xs) (suc k) e = let l = passes_within p xs k e in omega arith

pub position_found : (p : Row → Bool) (rows : List Row) (i : ℕ) → row_passes p (slice_get rows i) ≡ true
    → ((k : ℕ) → k < i → row_passes p (slice_get rows k) ≡ false) → position p rows ≡ Some i
position_found p [] i here before = absurd (true≢false (sym here))
position_found p (x ∷ xs) i here before =
    let l : i < length (x ∷ xs) = passes_within p (x ∷ xs) i here in
    let at : position_or_len p (x ∷ xs) ≡ i = position_or_len_is p (x ∷ xs) i x (omega arith)
    (λ k lt. sym (passes_at p (x ∷ xs) k x (omega arith)) ∙ before k lt)
    (λ lt. sym (passes_at p (x ∷ xs) i x lt) ∙ here) in
    ap (λ (n : ℕ). cond (nat_lt n (length (x ∷ xs))) (Some n) None) at ∙ ap (λ (b : Bool). cond b (Some i) None) (lt-ltb i (length (x ∷ xs)) l)

pub position_none : (p : Row → Bool) (rows : List Row) → ((k : ℕ) → row_passes p (slice_get rows k) ≡ false) → position p rows ≡ None
position_none p [] none = refl
position_none p (x ∷ xs) none =
    let at : position_or_len p (x ∷ xs) ≡ length (x ∷ xs) = position_or_len_is p (x ∷ xs) (length (x ∷ xs)) x (omega arith)
    (λ k lt. sym (passes_at p (x ∷ xs) k x lt) ∙ none k)
    (λ lt. absurd (omega arith)) in
    ap (λ (n : ℕ). cond (nat_lt n (length (x ∷ xs))) (Some n) None) at ∙ ap (λ (b : Bool). cond b (Some (length (x ∷ xs))) None) (le-ltb (length (x ∷ xs)) (length (x ∷ xs)) (omega arith))
