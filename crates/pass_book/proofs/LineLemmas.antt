-- The line of a number after a line more, and after another line in the place of one.
use Rattle.std.proofs.Common.{◌≡◌, ◌≢◌, ℕ, zero, suc, ◌<◌, [], ◌∷◌, ◌++◌, length, set, Option, refl, ap, arith}
use Rattle.pass_book.specs.Lines.{Lines, line_at, HasLine}

module _ {T : Type 0} where
  -- a number that has a line is below the next one
  pub below : (lines : Lines T) (number : ℕ) (line : T) → HasLine lines number line → number < length lines
  below [] number line has = cc
  below (x ∷ lines) zero line has = omega arith
  below (x ∷ lines) (suc number) line has = let rest = below lines number line has in omega arith

  -- the new number has the new line
  pub push_here : (lines : Lines T) (x : Option T) → line_at (lines ++ x ∷ []) (length lines) ≡ x
  push_here [] x = refl
  push_here (y ∷ lines) x = push_here lines x

  -- a number that has a line keeps it behind a new one
  pub push_else : (lines : Lines T) (x : Option T) (number : ℕ) (line : T) → HasLine lines number line → HasLine (lines ++ x ∷ []) number line
  push_else [] x number line has = cc
  push_else (y ∷ lines) x zero line has = has
  push_else (y ∷ lines) x (suc number) line has = push_else lines x number line has

  -- a number that is within the book has what is set
  pub set_here : (lines : Lines T) (number : ℕ) (x : Option T) → number < length lines → line_at (set lines number x) number ≡ x
  set_here [] number x below = absurd (omega (arith, below))
  set_here (y ∷ lines) zero x below = refl
  set_here (y ∷ lines) (suc number) x below = set_here lines number x (omega (arith, below))

  -- and all others have what they had
  pub set_else : (lines : Lines T) (number other : ℕ) (x : Option T) → other ≢ number → line_at (set lines number x) other ≡ line_at lines other
  set_else [] number other x ne = refl
  set_else (y ∷ lines) zero zero x ne = absurd (ne refl)
  set_else (y ∷ lines) zero (suc other) x ne = refl
  set_else (y ∷ lines) (suc number) zero x ne = refl
  set_else (y ∷ lines) (suc number) (suc other) x ne = set_else lines number other x (λ same. ne (ap suc same))
