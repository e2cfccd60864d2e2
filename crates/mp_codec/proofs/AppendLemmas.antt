-- Writers one behind the other: a loop over elements, and calls in a row.
use Rattle.std.proofs.Common.{◌≡◌, subst, ◌⊎◌, inl, inr, sym, ◌∙◌, ap, ℕ, ◌+◌, ◌<◌, ◌≤◌, List, [], ◌∷◌, ◌++◌, length, take, drop, arith, append_assoc, append-nil, get_or}
use Rattle.std.specs.Prelude.{Result, Ok, Err, OnOk, OnErr}
use Rattle.std.specs.List.{flat_map}
use Rattle.std.proofs.lemmas.Grind.{flat_map-append}
use Rattle.std.proofs.lemmas.List.{take_more, get_or_default, take-append-drop}
use Rattle.std.proofs.Math.Seq.{take-append_seam}
use Rattle.std.proofs.Math.Nat.{eq-or-lt_of_le}

-- what was written of the first elements, with one more
pub one_more : {X : Type 0} (f : X → List ℕ) (xs : List X) (i : ℕ) (x : X) (old before now : List ℕ) → i < length xs → x ≡ get_or xs i x
    → before ≡ old ++ flat_map f (take i xs) → now ≡ before ++ f x → now ≡ old ++ flat_map f (take (i + 1) xs)
one_more {X} f xs i x old before now lt is was wrote =
    let more : flat_map f (take (i + 1) xs) ≡ flat_map f (take i xs) ++ f x =
    ap (flat_map f) (take_more xs i x lt ∙ ap (λ (y : X). take i xs ++ y ∷ []) (sym is)) ∙ flat_map-append f (take i xs) (x ∷ []) ∙ ap (λ (t : List ℕ). flat_map f (take i xs) ++ t) (append-nil (f x)) in
    wrote ∙ ap (λ (t : List ℕ). t ++ f x) was ∙ append_assoc old (flat_map f (take i xs)) (f x) ∙ ap (λ (t : List ℕ). old ++ t) (sym more)

-- what holds of the first elements, with one more
pub all_more : {X : Type 0} (P : X → Type 0) (xs : List X) (i : ℕ) (x : X) → i < length xs → x ≡ get_or xs i x → ((k : ℕ) (d : X) → k < i → P (get_or xs k d)) → P x
    → (k : ℕ) (d : X) → k < i + 1 → P (get_or xs k d)
all_more {X} P xs i x lt is before now k d less = go (eq-or-lt_of_le (let le : k ≤ i = omega arith in le))
  where
    go : (k ≡ i) ⊎ (k < i) → P (get_or xs k d)
    go (inl e) = subst P (is ∙ ap (λ (n : ℕ). get_or xs n x) (sym e) ∙ get_or_default xs k x d (let l : k < length xs = omega arith in l)) now
    go (inr l) = before k d l

-- ---- writers one behind the other

-- what holds where a call succeeds, along an implication
pub on_ok : {T E : Type 0} {P Q : Type 0} (r : Result T E) → (P → Q) → OnOk r P → OnOk r Q
on_ok (Ok x) to p = to p
on_ok (Err e) to p = p

pub on_err : {T E : Type 0} {P Q : Type 0} (r : Result T E) → (P → Q) → OnErr r P → OnErr r Q
on_err (Ok x) to p = p
on_err (Err e) to p = to p

-- two pieces, one behind the other
pub both_written : (a b old mid now : List ℕ) → mid ≡ old ++ a → now ≡ mid ++ b → now ≡ old ++ (a ++ b)
both_written a b old mid now first second = second ∙ ap (λ (t : List ℕ). t ++ b) first ∙ append_assoc old a b

-- what stood before the first piece stands where the second one failed
pub kept_before : (a old mid now : List ℕ) → mid ≡ old ++ a → take (length mid) now ≡ mid → take (length old) now ≡ old
kept_before a old mid now first kept =
    let split : take (length mid) now ++ drop (length mid) now ≡ now = take-append-drop (length mid) now in
    ap (take (length old)) (sym split ∙ ap (λ (t : List ℕ). t ++ drop (length mid) now) (kept ∙ first) ∙ append_assoc old a (drop (length mid) now))
    ∙ take-append_seam old (a ++ drop (length mid) now)

-- what holds anyway
pub on_err_too : {T E : Type 0} {P : Type 0} (r : Result T E) → P → OnErr r P
on_err_too (Ok x) p = tt
on_err_too (Err e) p = p

pub on_ok_too : {T E : Type 0} {P : Type 0} (r : Result T E) → P → OnOk r P
on_ok_too (Ok x) p = p
on_ok_too (Err e) p = tt
