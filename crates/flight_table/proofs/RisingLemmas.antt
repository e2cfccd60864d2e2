-- A number more in an ascending list.
use Rattle.std.proofs.Common.{◌≡◌, ◌≢◌, ◌⊎◌, ℕ, zero, suc, ◌+◌, ◌-◌, ◌<◌, ◌≤◌, ◌==◌, ◌||◌, Bool, true, false, List, [], ◌∷◌, length, slice_index, refl, sym, ap, subst, inl, inr, ⊎_elim, arith, eq-eqb}
use Rattle.std.specs.List.{insert}
use Rattle.std.specs.List.Sorted.{IsStrictlyIncreasing}
use Rattle.std.proofs.lemmas.List.Edits.{get_or-insert_at, get_or-insert_below, get_or-insert_above}
use Rattle.std.proofs.lemmas.Bool.{cases_eq}
use Rattle.flight_journal.specs.State.{is_one_of}
use Rattle.flight_rows.proofs.EachLemmas.{rises}

-- of two numbers one is below the other, or not
less_or : (a b : ℕ) → (a < b) ⊎ (b ≤ a)
less_or a zero = inr (omega arith)
less_or zero (suc b) = inl (omega arith)
less_or (suc a) (suc b) = ⊎_elim (λ (h : a < b). inl (omega (arith, h))) (λ (h : b ≤ a). inr (omega (arith, h))) (less_or a b)

length_insert : (xs : List ℕ) (i f : ℕ) → length (insert xs i f) ≡ length xs + 1
length_insert [] zero f = refl
length_insert [] (suc i) f = refl
length_insert (x ∷ xs) zero f = let r : length (f ∷ x ∷ xs) ≡ length (x ∷ xs) + 1 = omega arith in r
length_insert (x ∷ xs) (suc i) f = let r = length_insert xs i f in omega arith

pub rises_insert : (xs : List ℕ) (i f : ℕ) → IsStrictlyIncreasing xs → i ≤ length xs → ((n : ℕ) → n < i → slice_index xs n < f) → ((n : ℕ) → i ≤ n → n < length xs → f < slice_index xs n) → IsStrictlyIncreasing (insert xs i f)
rises_insert xs i f rising within below above k next =
    let len = length_insert xs i f in
    let within_k : k + 1 < length xs + 1 = omega (arith, next, len) in
    ⊎_elim
    (λ (e : k ≡ i). subst (λ n. slice_index (insert xs i f) n < slice_index (insert xs i f) (n + 1)) (sym e)
    (first (slice_index (insert xs i f) i) (slice_index (insert xs i f) (i + 1)) (slice_index xs i) (get_or-insert_at xs i f 0 within) (get_or-insert_above xs i f 0 i (at_least i) within) (above i (at_least i) (room e within_k))))
    (λ (ne : k ≢ i). ⊎_elim
    (λ (e : k + 1 ≡ i). let h = get_or-insert_below xs i f 0 k (under e) within in let n = get_or-insert_at xs i f 0 within in let b = below k (under e) in
    subst (λ m. slice_index (insert xs i f) k < slice_index (insert xs i f) m) (sym e) (second (slice_index (insert xs i f) k) (slice_index (insert xs i f) i) (slice_index xs k) h n b))
    (λ (ne' : k + 1 ≢ i). rest ne ne' within_k)
    (cases_eq (k + 1) i))
    (cases_eq k i)
  where
    at_least : (n : ℕ) → n ≤ n
    at_least n = omega arith

    room : k ≡ i → k + 1 < length xs + 1 → i < length xs
    room e h = omega arith

    under : k + 1 ≡ i → k < i
    under e = omega arith

    first : (a b c : ℕ) → a ≡ f → b ≡ c → f < c → a < b
    first a b c h n l = omega arith

    second : (a b c : ℕ) → a ≡ c → b ≡ f → c < f → a < b
    second a b c h n l = omega arith

    low : (a b c d : ℕ) → a ≡ c → b ≡ d → c < d → a < b
    low a b c d h n l = omega arith

    back : (n : ℕ) → i < n → n ≡ (n - 1) + 1
    back n l = omega arith

    side : k ≢ i → k + 1 ≢ i → (k + 1 < i) ⊎ (i < k)
    side ne ne' = ⊎_elim (λ (l : k + 1 < i). inl l) (λ (g : i ≤ k + 1). inr (omega (arith, ne, ne', g))) (less_or (k + 1) i)

    rest : k ≢ i → k + 1 ≢ i → k + 1 < length xs + 1 → slice_index (insert xs i f) k < slice_index (insert xs i f) (k + 1)
    rest ne ne' inside = ⊎_elim
        (λ (l : k + 1 < i). low _ _ (slice_index xs k) (slice_index xs (k + 1)) (get_or-insert_below xs i f 0 k (omega arith) within) (get_or-insert_below xs i f 0 (k + 1) l within) (rising k (omega arith)))
        (λ (g : i < k). low _ _ (slice_index xs (k - 1)) (slice_index xs k)
        (subst (λ n. slice_index (insert xs i f) n ≡ slice_index xs (k - 1)) (sym (back k g)) (get_or-insert_above xs i f 0 (k - 1) (omega arith) within))
        (get_or-insert_above xs i f 0 k (omega arith) within)
        (rises xs (k - 1) k rising (omega arith) (omega arith)))
        (side ne ne')

one_first : (f : ℕ) (xs : List ℕ) → is_one_of f (f ∷ xs) ≡ true
one_first f xs = ap (λ b. b || is_one_of f xs) (eq-eqb f f refl)

one_later : (b c : Bool) → c ≡ true → b || c ≡ true
one_later true c h = refl
one_later false c h = h

pub one_here : (f i : ℕ) (xs : List ℕ) → is_one_of f (insert xs i f) ≡ true
one_here f zero [] = one_first f []
one_here f zero (x ∷ xs) = one_first f (x ∷ xs)
one_here f (suc i) [] = one_first f []
one_here f (suc i) (x ∷ xs) = one_later (x == f) (is_one_of f (insert xs i f)) (one_here f i xs)

pub one_else : (g f i : ℕ) (xs : List ℕ) → is_one_of g xs ≡ true → is_one_of g (insert xs i f) ≡ true
one_else g f zero [] one = one_later (f == g) (is_one_of g []) one
one_else g f zero (x ∷ xs) one = one_later (f == g) (is_one_of g (x ∷ xs)) one
one_else g f (suc i) [] one = one_later (f == g) (is_one_of g []) one
one_else g f (suc i) (x ∷ xs) one = split (x == g) one (λ h. one_else g f i xs h)
  where
    split : (b : Bool) → b || is_one_of g xs ≡ true → (is_one_of g xs ≡ true → is_one_of g (insert xs i f) ≡ true) → b || is_one_of g (insert xs i f) ≡ true
    split true h more = refl
    split false h more = more h

-- who stands at a place is one of them
pub one_of_place : (g n : ℕ) (xs : List ℕ) → n < length xs → slice_index xs n ≡ g → is_one_of g xs ≡ true
one_of_place g n [] l e = absurd (omega (arith, l))
one_of_place g zero (x ∷ xs) l e = ap (λ b. b || is_one_of g xs) (eq-eqb x g e)
one_of_place g (suc n) (x ∷ xs) l e = one_later (x == g) (is_one_of g xs) (one_of_place g n xs (omega (arith, l)) e)

-- what stands before a place is below what the place's last one is below
pub below_by : (xs : List ℕ) (f place : ℕ) → IsStrictlyIncreasing xs → place ≤ length xs → 0 < place → slice_index xs (place - 1) < f → (n : ℕ) → n < place → slice_index xs n < f
below_by xs f place rising within some last n less =
    ⊎_elim
    (λ (e : n ≡ place - 1). subst (λ m. slice_index xs m < f) (sym e) last)
    (λ (ne : n ≢ place - 1). let before = rises xs n (place - 1) rising (omega arith) (omega arith) in through (slice_index xs n) (slice_index xs (place - 1)) before last)
    (cases_eq n (place - 1))
  where
    through : (a b : ℕ) → a < b → b < f → a < f
    through a b h k = omega arith
