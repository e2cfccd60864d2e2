-- Copies of the texts of a list, one after the other.
use Rattle.std.proofs.Common.{◌≡◌, sym, ◌∙◌, ap, ℕ, ◌+◌, ◌<◌, List, [], ◌∷◌, ◌++◌, length, take, inl, inr, arith}
use Rattle.std.specs.Prelude.{Some, None, slice_get}
use Rattle.std.proofs.lemmas.List.{take_more}
use Rattle.std.proofs.lemmas.Option.{get_or_from_slice_get, slice_get_within, slice_get_cases}

-- the texts up to one more
pub take_there : (xs : List (List ℕ)) (i : ℕ) (x : List ℕ) → slice_get xs i ≡ Some x → take (i + 1) xs ≡ take i xs ++ x ∷ []
take_there xs i x at = take_more xs i x (slice_get_within xs i x at) ∙ ap (λ (y : List ℕ). take i xs ++ y ∷ []) (get_or_from_slice_get xs i x x at)

-- there is a text at a place below the length
pub is_there : (xs : List (List ℕ)) (i : ℕ) → i < length xs → slice_get xs i ≡ None → ⊥
is_there xs i within none =
    let cases = slice_get_cases xs i in
    elim cases.1 [ inl found ↦ let some : Some found.0 ≡ None = sym found.2 ∙ none in cc | inr past ↦ omega (arith, past.0) ]
