-- Names that were met, with one name more.
use Rattle.std.proofs.Common.{◌≡◌, refl, sym, ◌∙◌, ap, subst, ℕ, zero, suc, ◌+◌, ◌-◌, ◌<◌, Bool, true, false, true≢false, not, ◌||◌, ltb, List, [], ◌∷◌, ◌++◌, length, get_or, arith}
use Rattle.std.specs.Prelude.{Result, Ok, Err, is_ok, slice_get, IfSome}
use Rattle.std.specs.List.{list_any}
use Rattle.std.specs.Str.{bytes_eq}
use Rattle.std.specs.Borrow.{Bor}
use Rattle.std.specs.Cmp.Lexicographic.{slice_cmp}
use Rattle.std.specs.Ordering.{nat_cmp, is_eq, is_lt}
use Rattle.std.specs.Cmp.{IsStrictWeakOrder}
use Rattle.std.specs.List.Sorted.{IsBinarySearchResult, IsSearchInRange}
use Rattle.std.specs.BTreeSet.{insert_key}
use Rattle.std.proofs.lemmas.Map.Text.{is_eq-slice_cmp}
use Rattle.std.proofs.lemmas.Bool.{ltb-true, ltb-false}
use Rattle.std.proofs.lemmas.Cmp.{nat_list_cmp_total}
use Rattle.std.proofs.lemmas.List.{length-append, get_or_append_left, get_or-append_right}
use Rattle.std.proofs.lemmas.List.Folds.{list_any_at}
use Rattle.std.proofs.lemmas.List.Sorted.{ranks_by, sorted_far, searchable_from_sorted}
use Rattle.mp_codec.proofs.KeyLemmas.{same_bytes}
use Rattle.mp_codec.proofs.NameSetLemmas.{name_cmp, is_name, has_more}
use Rattle.shard_file.specs.Names.{name_lt, IsRising, IsBehind, is_among}

-- ---- names that rise

-- names are in one order
name_order : IsStrictWeakOrder name_lt
name_order = ranks_by nat_list_cmp_total (λ (k : Bor (List ℕ)). k.now)

-- a name that is equal to none is not among them
none_among : (xs : List (Bor (List ℕ))) (name : List ℕ) → ((i : ℕ) (d : Bor (List ℕ)) → i < length xs → bytes_eq (get_or xs i d).now name ≡ false) → is_among xs name ≡ false
none_among [] name other = refl
none_among (x ∷ xs) name other = ap (λ (b : Bool). b || is_among xs name) (other 0 x (omega arith)) ∙ none_among xs name (λ i d lt. other (suc i) d (omega arith))

-- what a search among names that rise answers
pub searched : (xs : List (Bor (List ℕ))) (name : List ℕ) (r : Result ℕ ℕ) → IsRising xs → IsSearchInRange r (length xs) → IsBinarySearchResult (λ y. slice_cmp nat_cmp y.now name) xs r → is_ok r ≡ is_among xs name
searched [] name (Ok i) up range at = absurd (omega (arith, range))
searched (x ∷ xs) name (Ok i) up range at =
    sym (list_any_at (λ k. bytes_eq k.now name) (x ∷ xs) i x range (sym (is_eq-slice_cmp (get_or (x ∷ xs) i x).now name) ∙ ap is_eq (at x)))
searched xs name (Err place) up range parted = sym (none_among xs name (λ i d lt. other i d lt (ltb i place) refl))
  where
    unequal : (i : ℕ) (d : Bor (List ℕ)) → is_eq (slice_cmp nat_cmp (get_or xs i d).now name) ≡ false → bytes_eq (get_or xs i d).now name ≡ false
    unequal i d e = sym (is_eq-slice_cmp (get_or xs i d).now name) ∙ e

    other : (i : ℕ) (d : Bor (List ℕ)) → i < length xs → (b : Bool) → ltb i place ≡ b → bytes_eq (get_or xs i d).now name ≡ false
    other i d lt true e =
        let sides = parted (searchable_from_sorted nat_list_cmp_total (λ (k : Bor (List ℕ)). k.now) xs name up) in
        unequal i d (ap is_eq (sides.0 i d (omega arith) (ltb-true _ _ e)))
    other i d lt false e =
        let sides = parted (searchable_from_sorted nat_list_cmp_total (λ (k : Bor (List ℕ)). k.now) xs name up) in
        unequal i d (ap is_eq (sides.1 i d (ltb-false _ _ e) lt))

-- the last name is below one that is behind all
last_below : (xs : List (Bor (List ℕ))) (i : ℕ) (name : List ℕ) (d : Bor (List ℕ)) → i < length xs → IfSome (slice_get xs i) (λ last. is_lt (slice_cmp nat_cmp last.now name) ≡ true)
    → is_lt (slice_cmp nat_cmp (get_or xs i d).now name) ≡ true
last_below [] i name d lt h = absurd (omega arith)
last_below (x ∷ xs) zero name d lt h = h
last_below (x ∷ xs) (suc i) name d lt h = last_below xs i name d (omega arith) h

-- a name behind all is none of them
behind_is_new : (xs : List (Bor (List ℕ))) (name : List ℕ) → IsRising xs → IsBehind name xs → is_among xs name ≡ false
behind_is_new xs name up behind = none_among xs name (λ i d lt. apart i d lt (bytes_eq (get_or xs i d).now name) refl)
  where
    apart : (i : ℕ) (d : Bor (List ℕ)) → i < length xs → (b : Bool) → bytes_eq (get_or xs i d).now name ≡ b → bytes_eq (get_or xs i d).now name ≡ false
    apart i d lt false e = e
    apart i d lt true e =
        let last : Bor (List ℕ) = get_or xs (length xs - 1) d in
        let below : is_lt (slice_cmp nat_cmp last.now name) ≡ true = last_below xs (length xs - 1) name d (omega arith) behind in
        let far : name_lt last (get_or xs i d) ≡ false = sorted_far name_lt name_order xs up i (length xs - 1) d (omega arith) (omega arith) in
        let same : (get_or xs i d).now ≡ name = same_bytes (get_or xs i d).now name e in
        absurd (true≢false (sym below ∙ ap (λ (t : List ℕ). is_lt (slice_cmp nat_cmp last.now t)) (sym same) ∙ far))

-- names rise with one more behind all
pub rising_more : (xs : List (Bor (List ℕ))) (name : Bor (List ℕ)) → IsRising xs → IsBehind name.now xs → IsRising (xs ++ name ∷ [])
rising_more xs name up behind k d low high = go (ltb (k + 1) (length xs)) refl
  where
    both : (a b : Bor (List ℕ)) → get_or (xs ++ name ∷ []) (k + 1) d ≡ a → get_or (xs ++ name ∷ []) k d ≡ b → name_lt a b ≡ false → name_lt (get_or (xs ++ name ∷ []) (k + 1) d) (get_or (xs ++ name ∷ []) k d) ≡ false
    both a b e f h = (λ i. name_lt (e i) (f i)) ∙ h

    go : (b : Bool) → ltb (k + 1) (length xs) ≡ b → name_lt (get_or (xs ++ name ∷ []) (k + 1) d) (get_or (xs ++ name ∷ []) k d) ≡ false
    go true e =
        let inside : k + 1 < length xs = ltb-true _ _ e in
        both _ _ (get_or_append_left xs (name ∷ []) d (k + 1) inside) (get_or_append_left xs (name ∷ []) d k (omega arith)) (up k d low inside)
    go false e =
        let long = length-append xs (name ∷ []) in
        let at : length xs ≡ k + 1 = omega (arith, long, high, ltb-false _ _ e) in
        let none : k + 1 - (k + 1) ≡ 0 = omega arith in
        let last : length xs - 1 ≡ k = omega arith in
        let below : is_lt (slice_cmp nat_cmp (get_or xs k d).now name.now) ≡ true =
        last_below xs k name.now d (omega arith) (subst (λ (i : ℕ). IfSome (slice_get xs i) (λ (x : Bor (List ℕ)). is_lt (slice_cmp nat_cmp x.now name.now) ≡ true)) last behind) in
        both name (get_or xs k d)
        (get_or-append_right xs (name ∷ []) (k + 1) (k + 1) d at (omega arith) ∙ ap (λ (i : ℕ). get_or (name ∷ []) i d) none)
        (get_or_append_left xs (name ∷ []) d k (omega arith))
        (name_order.one_way (get_or xs k d) name below)

-- ---- names that were met, with one more

first_in_front : (a b c : Bool) → (a || (b || c)) ≡ (b || (a || c))
first_in_front true true c = refl
first_in_front true false c = refl
first_in_front false b c = refl

-- a name of the others
pub more_others : (xs : List (Bor (List ℕ))) (keys : List (Bor (List ℕ))) (k : Bor (List ℕ)) (q : List ℕ)
    → (is_among xs q || list_any (is_name q) (insert_key name_cmp keys k)) ≡ (bytes_eq k.now q || (is_among xs q || list_any (is_name q) keys))
more_others xs keys k q = ap (λ (b : Bool). is_among xs q || b) (has_more keys k q) ∙ first_in_front (is_among xs q) (bytes_eq k.now q) (list_any (is_name q) keys)

-- a name behind all is new, where there are no others
pub new_behind : (xs keys : List (Bor (List ℕ))) (name : List ℕ) → IsRising xs → IsBehind name xs → length keys ≡ 0 → true ≡ not (is_among xs name || list_any (is_name name) keys)
new_behind xs [] name up behind e = sym (ap (λ (b : Bool). not (b || false)) (behind_is_new xs name up behind))
new_behind xs (k ∷ keys) name up behind e = absurd (omega (arith, e))
