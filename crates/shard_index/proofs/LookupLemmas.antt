-- A binary search among names that ascend finds the digest that is listed for a name.
use Rattle.std.proofs.Common.{◌≡◌, refl, sym, ◌∙◌, ap, ℕ, zero, suc, ◌<◌, Bool, true, false, cond, ltb, List, [], ◌∷◌, length, get_or, map, arith}
use Rattle.std.specs.Prelude.{Err, Some, None}
use Rattle.std.specs.List.{IsDistinct, AllByRecursion}
use Rattle.std.specs.List.Sorted.{IsSortedBy, IsBinarySearchResult}
use Rattle.std.specs.Ordering.{nat_cmp, is_eq}
use Rattle.std.specs.declared.cmp.Ordering.{Ordering}
use Rattle.std.specs.declared.cmp.Ordering.TheVariants.{Equal}
use Rattle.std.specs.Cmp.Lexicographic.{slice_cmp}
use Rattle.std.specs.Str.{bytes_eq}
use Rattle.std.proofs.lemmas.Bool.{ltb-true, ltb-false}
use Rattle.std.proofs.lemmas.Cmp.{nat_list_cmp_total}
use Rattle.std.proofs.lemmas.List.Sorted.{searchable_from_sorted}
use Rattle.std.proofs.lemmas.Map.Text.{is_eq-slice_cmp}
use Rattle.shard_index.specs.Index.{Listed, name_lt, digest_at}
use Rattle.shard_index.specs.Reading.{AreDistinct}
use Rattle.mp_codec.proofs.KeyLemmas.{same_bytes}

-- a name is compared with that of an entry
abbrev pub compared : List ℕ → Listed → Ordering
compared name x = slice_cmp nat_cmp x.name name

-- an entry that is equal has the name
equal_is : (name : List ℕ) (x : Listed) → compared name x ≡ Equal → bytes_eq x.name name ≡ true
equal_is name x e = sym (is_eq-slice_cmp x.name name) ∙ ap is_eq e

-- an entry that is not equal hasn't
unequal_is : (name : List ℕ) (x : Listed) → is_eq (compared name x) ≡ false → bytes_eq x.name name ≡ false
unequal_is name x e = sym (is_eq-slice_cmp x.name name) ∙ e

-- where names differ, an entry behind one of another name
later : (x : Listed) (xs : List Listed) (i : ℕ) (d : Listed) (name : List ℕ) → AllByRecursion (λ q. bytes_eq x.name q ≡ false) (map (λ z. z.name) xs) → i < length xs → bytes_eq (get_or xs i d).name name ≡ true → bytes_eq x.name name ≡ false
later x [] i d name a lt e = absurd (omega arith)
later x (y ∷ ys) zero d name a lt e = ap (λ (t : List ℕ). bytes_eq x.name t) (sym (same_bytes y.name name e)) ∙ a.0
later x (y ∷ ys) (suc i) d name a lt e = later x ys i d name a.1 (omega arith) e

pub digest_found : (xs : List Listed) (name : List ℕ) (i : ℕ) (d : Listed) → AreDistinct xs → i < length xs → compared name (get_or xs i d) ≡ Equal → digest_at name xs ≡ Some (get_or xs i d).digest
unfolding IsDistinct
digest_found [] name i d apart lt e = absurd (omega arith)
digest_found (x ∷ xs) name zero d apart lt e = ap (λ (b : Bool). cond b (Some x.digest) (digest_at name xs)) (equal_is name x e)
digest_found (x ∷ xs) name (suc i) d apart lt e =
    ap (λ (b : Bool). cond b (Some x.digest) (digest_at name xs)) (later x xs i d name apart.0 (omega arith) (equal_is name (get_or xs i d) e))
    ∙ digest_found xs name i d apart.1 (omega arith) e

none_found : (xs : List Listed) (name : List ℕ) → ((i : ℕ) (d : Listed) → i < length xs → is_eq (compared name (get_or xs i d)) ≡ false) → digest_at name xs ≡ None
none_found [] name other = refl
none_found (x ∷ xs) name other =
    ap (λ (b : Bool). cond b (Some x.digest) (digest_at name xs)) (unequal_is name x (other 0 x (omega arith)))
    ∙ none_found xs name (λ i d lt. other (suc i) d (omega arith))

-- a search that found no name ended where there is none
pub digest_absent : (xs : List Listed) (name : List ℕ) (place : ℕ) → IsSortedBy name_lt xs → IsBinarySearchResult (compared name) xs (Err place) → digest_at name xs ≡ None
digest_absent xs name place up parted = none_found xs name (λ i d lt. other i d lt (ltb i place) refl)
  where
    other : (i : ℕ) (d : Listed) → i < length xs → (b : Bool) → ltb i place ≡ b → is_eq (compared name (get_or xs i d)) ≡ false
    other i d lt true e =
        let sides = parted (searchable_from_sorted nat_list_cmp_total (λ (x : Listed). x.name) xs name up) in
        ap is_eq (sides.0 i d (omega arith) (ltb-true _ _ e))
    other i d lt false e =
        let sides = parted (searchable_from_sorted nat_list_cmp_total (λ (x : Listed). x.name) xs name up) in
        ap is_eq (sides.1 i d (ltb-false _ _ e) lt)
