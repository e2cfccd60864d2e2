-- Texts of the elements of a list, one element more.
use Rattle.std.proofs.Common.{◌≡◌, ℕ, ◌+◌, ◌<◌, None, Some, Bool, true, false, cond, List, [], ◌∷◌, ◌++◌, length, take, slice_get, sym, ◌∙◌, ap, append-nil, inl, inr, arith}
use Rattle.std.specs.List.{filter, flat_map}
use Rattle.std.proofs.lemmas.List.{take_more}
use Rattle.std.proofs.lemmas.List.Concat.{flat_map-append}
use Rattle.std.proofs.lemmas.List.Elements.{filter-append}
use Rattle.std.proofs.lemmas.Option.{get_or_from_slice_get, slice_get_within, slice_get_cases}

-- the elements up to one more
pub take-there : {X : Type 0} (xs : List X) (i : ℕ) (x : X) → slice_get xs i ≡ Some x → take (i + 1) xs ≡ take i xs ++ x ∷ []
take-there xs i x at = take_more xs i x (slice_get_within xs i x at) ∙ ap (λ y. take i xs ++ y ∷ []) (get_or_from_slice_get xs i x x at)

-- there is an element at a place below the length
pub is-there : {X : Type 0} (xs : List X) (i : ℕ) → i < length xs → slice_get xs i ≡ None → ⊥
is-there {X} xs i within none =
    let cases = slice_get_cases xs i in
    elim cases.1 [ inl found ↦ let some : Some found.0 ≡ None = sym found.2 ∙ none in cc | inr past ↦ omega (arith, past.0) ]

module _ {X Y : Type 0} (f : X → List Y) (xs : List X) (i : ℕ) (x : X) (at : slice_get xs i ≡ Some x) where
  -- one element more adds its text
  pub one-more : flat_map f (take (i + 1) xs) ≡ flat_map f (take i xs) ++ f x
  one-more = ap (flat_map f) (take-there xs i x at) ∙ flat_map-append f (take i xs) (x ∷ []) ∙ ap (λ l. flat_map f (take i xs) ++ l) (append-nil (f x))

  -- of those that pass a test
  module _ (p : X → Bool) where
    chosen : (b : Bool) → p x ≡ b → flat_map f (filter p (take (i + 1) xs)) ≡ flat_map f (filter p (take i xs)) ++ flat_map f (cond b (x ∷ []) [])
    chosen b is =
        ap (λ l. flat_map f (filter p l)) (take-there xs i x at)
        ∙ ap (flat_map f) (filter-append p (take i xs) (x ∷ []) ∙ ap (λ t. filter p (take i xs) ++ cond t (x ∷ []) []) is)
        ∙ flat_map-append f (filter p (take i xs)) (cond b (x ∷ []) [])

    -- one element more that passes adds its text
    pub passing : p x ≡ true → flat_map f (filter p (take (i + 1) xs)) ≡ flat_map f (filter p (take i xs)) ++ f x
    passing is = chosen true is ∙ ap (λ l. flat_map f (filter p (take i xs)) ++ l) (append-nil (f x))

    -- one element more that doesn't pass adds nothing
    pub failing : p x ≡ false → flat_map f (filter p (take (i + 1) xs)) ≡ flat_map f (filter p (take i xs))
    failing is = chosen false is ∙ append-nil (flat_map f (filter p (take i xs)))
