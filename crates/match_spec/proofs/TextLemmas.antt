-- Texts without their last byte.
use Rattle.std.proofs.Common.{◌≡◌, ◌-◌, ℕ, List, [], ◌∷◌, ◌++◌, length, take, reverse, refl, sym, arith, subst, length-append}
use Rattle.std.proofs.lemmas.List.{reverse-append, reverse-reverse, take_at}
use Rattle.match_spec.specs.StarBuild.{tail_of}

-- the bytes before the last one
front-of : (xs : List ℕ) (b : ℕ) → take (length (xs ++ b ∷ []) - 1) (xs ++ b ∷ []) ≡ xs
front-of xs b =
    let n : length (xs ++ b ∷ []) - 1 ≡ length xs = omega (arith, length-append xs (b ∷ [])) in
    take_at xs (b ∷ []) (length (xs ++ b ∷ []) - 1) (sym n)

-- the same of a text turned round
front-turned : (r : List ℕ) → take (length (reverse r) - 1) (reverse r) ≡ reverse (tail_of r)
front-turned [] = refl
front-turned (b ∷ rest) =
    let P : List ℕ → Type 0 = λ t. take (length t - 1) t ≡ reverse rest in
    subst P (sym (reverse-append (b ∷ []) rest)) (front-of (reverse rest) b)

-- what stands before the last byte, from the other end
pub front-tail : (t : List ℕ) → take (length t - 1) t ≡ reverse (tail_of (reverse t))
front-tail t = let P : List ℕ → Type 0 = λ u. take (length u - 1) u ≡ reverse (tail_of (reverse t)) in subst P (reverse-reverse t) (front-turned (reverse t))
