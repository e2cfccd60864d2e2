-- How many of some flights were lost.
use Rattle.std.proofs.Common.{◌≡◌, ℕ, zero, suc, ◌+◌, ◌≤◌, ◌==◌, ◌||◌, Bool, true, false, List, [], ◌∷◌, length, Some, slice_get, refl, sym, ap, ◌∙◌, arith, eq-eqb, ne_eqb}
use Rattle.flight_journal.specs.declared.entry.Entry.{Entry}
use Rattle.flight_journal.specs.declared.entry.Entry.TheVariants.{Opened, Began, Joined, Hit, Taken, Landed, Lost, Cancelled, Closed, Evicted, Refreshed, Abandoned}
use Rattle.flight_journal.specs.State.{is_one_of}
use Rattle.flight_journal.specs.Count.{Among, IsOnce, one_if, loses_one_of, losses_among}
use Rattle.flight_journal.proofs.ListLemmas.{none_in_nothing}

-- a flight that doesn't stand in a list is none of it
not_among : (x : ℕ) (xs : List ℕ) → ¬ Among x xs → is_one_of x xs ≡ false
not_among x [] none = refl
not_among x (y ∷ ys) none =
    let apart : (y == x) ≡ false = ne_eqb y x (λ e. none (zero, ap Some e)) in
    ap (λ (b : Bool). b || is_one_of x ys) apart ∙ not_among x ys (λ a. none (suc a.0, a.1))

-- one of a first flight and others, which it is none of
split_one : (f x : ℕ) (xs : List ℕ) → is_one_of x xs ≡ false → one_if (is_one_of f (x ∷ xs)) ≡ one_if (is_one_of f (x ∷ [])) + one_if (is_one_of f xs)
split_one f x xs apart = split (x == f) refl
  where
    split : (b : Bool) → (x == f) ≡ b → one_if (b || is_one_of f xs) ≡ one_if (b || false) + one_if (is_one_of f xs)
    split true e =
        let same : x ≡ f = grind (arith, e) in
        let none : is_one_of f xs ≡ false = ap (λ n. is_one_of n xs) (sym same) ∙ apart in
        let zero_of : one_if (is_one_of f xs) ≡ 0 = ap one_if none in
        omega arith
    split false e = omega arith

split_entry : (x : ℕ) (xs : List ℕ) (e : Entry) → is_one_of x xs ≡ false → one_if (loses_one_of (x ∷ xs) e) ≡ one_if (loses_one_of (x ∷ []) e) + one_if (loses_one_of xs e)
split_entry x xs (Lost p f) apart = split_one f x xs apart
split_entry x xs (Opened p) apart = omega arith
split_entry x xs (Began p f t) apart = omega arith
split_entry x xs (Joined p f) apart = omega arith
split_entry x xs (Hit p f) apart = omega arith
split_entry x xs (Taken p f) apart = omega arith
split_entry x xs (Landed p f size) apart = omega arith
split_entry x xs (Cancelled p) apart = omega arith
split_entry x xs (Closed p) apart = omega arith
split_entry x xs (Evicted f) apart = omega arith
split_entry x xs (Refreshed f) apart = omega arith
split_entry x xs (Abandoned f) apart = omega arith

split_losses : (x : ℕ) (xs : List ℕ) (js : List Entry) → is_one_of x xs ≡ false → losses_among (x ∷ xs) js ≡ losses_among (x ∷ []) js + losses_among xs js
split_losses x xs [] apart = omega arith
split_losses x xs (e ∷ es) apart =
    sums (one_if (loses_one_of (x ∷ xs) e)) (one_if (loses_one_of (x ∷ []) e)) (one_if (loses_one_of xs e)) (losses_among (x ∷ xs) es) (losses_among (x ∷ []) es) (losses_among xs es)
    (split_entry x xs e apart) (split_losses x xs es apart)
  where
    sums : (a b c d m n : ℕ) → a ≡ b + c → d ≡ m + n → a + d ≡ (b + m) + (c + n)
    sums a b c d m n h k = omega arith

-- a flight that was lost is counted
lost_one : (p x : ℕ) (js : List Entry) → Among (Lost p x) js → 1 ≤ losses_among (x ∷ []) js
lost_one p x [] among = absurd (none_in_nothing among.0 (Lost p x) among.1)
lost_one p x (e ∷ es) among = split (λ n h. lost_one p x es (n, h)) among.0 among.1
  where
    split : ((n : ℕ) → slice_get es n ≡ Some (Lost p x) → 1 ≤ losses_among (x ∷ []) es) → (n : ℕ) → slice_get (e ∷ es) n ≡ Some (Lost p x) → 1 ≤ one_if (loses_one_of (x ∷ []) e) + losses_among (x ∷ []) es
    split more zero h =
        let is : e ≡ Lost p x = cc in
        let one : is_one_of x (x ∷ []) ≡ true = ap (λ (b : Bool). b || false) (eq-eqb x x refl) in
        let counted : one_if (loses_one_of (x ∷ []) e) ≡ 1 = ap (λ (i : Entry). one_if (loses_one_of (x ∷ []) i)) is ∙ ap one_if one in
        omega arith
    split more (suc n) h = let k = more n h in omega arith

-- as many entries lose some flights as there are of them, if each was lost and none stands twice
pub losses_counted : (flights : List ℕ) (js : List Entry) → IsOnce flights → ((f : ℕ) → Among f flights → (p : ℕ) × Among (Lost p f) js) → length flights ≤ losses_among flights js
losses_counted [] js once lost = omega arith
losses_counted (x ∷ xs) js once lost =
    let first = lost x (zero, refl) in
    let one = lost_one first.0 x js first.1 in
    let rest = losses_counted xs js (λ i j y h k. down i j (once (suc i) (suc j) y h k)) (λ f among. lost f (suc among.0, among.1)) in
    let apart : is_one_of x xs ≡ false = not_among x xs (λ among. never among.0 (once zero (suc among.0) x refl among.1)) in
    let sum = split_losses x xs js apart in
    omega arith
  where
    down : (i j : ℕ) → suc i ≡ suc j → i ≡ j
    down i j h = omega arith

    never : (n : ℕ) → zero ≡ suc n → ⊥
    never n h = let bad : ⊥ = omega arith in bad
