-- Rows with their sizes in order of use, the most recently used first.
use Rattle.std.specs.Prelude.{◌≡◌, ℕ, ◌+◌, ◌<◌, ◌==◌, Bool, true, false, if◌then◌else◌, List, [], ◌∷◌, Option, Some, None, ⊤, refl}
use Rattle.std.specs.Coded.{Coded, code_by, coded×, coded_ℕ, coded_list}

-- the listed rows with their sizes, how many rows there is memory for, and the budget
pub record Listing : Type 0 where
  pub order : List (ℕ × ℕ)
  pub rows : ℕ
  pub budget : ℕ

-- a listing of these parts
abbrev pub listing : List (ℕ × ℕ) → ℕ → ℕ → Listing
listing order rows budget = record { order = order; rows = rows; budget = budget }

-- the code of a listing, by its parts
abbrev pub listing_code : Coded Listing
listing_code =
    code_by (List (ℕ × ℕ) × (ℕ × ℕ)) (coded× (coded_list (coded× coded_ℕ coded_ℕ)) (coded× coded_ℕ coded_ℕ)) (λ l. (l.order, (l.rows, l.budget))) (λ p. listing p.0 p.1.0 p.1.1) (λ _. refl)

-- whether a row is listed
abbrev pub is_listed : ℕ → List (ℕ × ℕ) → Bool
is_listed row [] = false
is_listed row (p ∷ ps) = if p.0 == row then true else is_listed row ps

-- the order without a row
abbrev pub without : ℕ → List (ℕ × ℕ) → List (ℕ × ℕ)
without row [] = []
without row (p ∷ ps) = if p.0 == row then without row ps else p ∷ without row ps

-- the row alone with its size, if it is listed
abbrev pub only : ℕ → List (ℕ × ℕ) → List (ℕ × ℕ)
only row [] = []
only row (p ∷ ps) = if p.0 == row then p ∷ only row ps else only row ps

-- the sizes together
abbrev pub total_of : List (ℕ × ℕ) → ℕ
total_of [] = 0
total_of (p ∷ ps) = p.1 + total_of ps

-- the least recently used row
abbrev pub oldest_of : List (ℕ × ℕ) → Option ℕ
oldest_of [] = None
oldest_of (p ∷ []) = Some p.0
oldest_of (p ∷ (q ∷ qs)) = oldest_of (q ∷ qs)

-- no row is listed twice
abbrev pub AreListedOnce : List (ℕ × ℕ) → Type 0
AreListedOnce [] = ⊤
AreListedOnce (p ∷ ps) = (is_listed p.0 ps ≡ false) × AreListedOnce ps

-- each listed row is below a number
abbrev pub AreBelow : ℕ → List (ℕ × ℕ) → Type 0
AreBelow rows [] = ⊤
AreBelow rows (p ∷ ps) = (p.0 < rows) × AreBelow rows ps
