-- Names by number.
use Rattle.std.proofs.Common.{◌≡◌, ℕ, zero, suc, ◌+◌, ◌*◌, ◌<◌, ◌≤◌, true, false, ◌||◌, List, [], ◌∷◌, length, refl, sym, ap, ◌∙◌, true≢false, arith, ltb, ltb-true, ltb-false}
use Rattle.std.specs.List.{IsDistinct}
use Rattle.std.proofs.lemmas.List.Folds.{list_any_at}
use Rattle.std.proofs.lemmas.Nat.{row_fits}
use Rattle.std.proofs.lemmas.Map.Keys.{apart_from_distinct}
use Rattle.closure_plan.specs.Names.{Name, is_name, has_name}
use Rattle.closure_plan.specs.Plan.{name_at}
use Rattle.closure_plan.proofs.NameLemmas.{In, itself, one_name}

-- a name has one number
pub one_number : (names : List Name) → IsDistinct is_name names → (a b : ℕ) → a < length names → b < length names → name_at names a ≡ name_at names b → a ≡ b
one_number names d a b la lb e = elim (ltb a b) as (λ x. ltb a b ≡ x → a ≡ b) [
  | true ↦ λ l. absurd (true≢false (sym (ap (is_name (name_at names a)) (sym e) ∙ itself (name_at names a)) ∙ apart_from_distinct is_name names a b [] d (ltb-true _ _ l) lb))
  | false ↦ λ l. elim (ltb b a) as (λ x. ltb b a ≡ x → a ≡ b) [
    | true ↦ λ m. absurd (true≢false (sym (ap (is_name (name_at names b)) e ∙ itself (name_at names b)) ∙ apart_from_distinct is_name names b a [] d (ltb-true _ _ m) la))
    | false ↦ λ m. let h = ltb-false _ _ l in let k = ltb-false _ _ m in omega arith
  ] refl
] refl

pub in_at : (names : List Name) (i : ℕ) → i < length names → In (name_at names i) names
in_at names i l = list_any_at (is_name (name_at names i)) names i [] l (itself (name_at names i))

-- a name that is listed has a number
pub number_of : (n : Name) (names : List Name) → In n names → (k : ℕ) × (k < length names) × (name_at names k ≡ n)
number_of n [] here = absurd (true≢false (sym here))
number_of n (m ∷ ms) here = elim (is_name n m) as (λ b. is_name n m ≡ b → (b || has_name ms n) ≡ true → (k : ℕ) × (k < length (m ∷ ms)) × (name_at (m ∷ ms) k ≡ n)) [
  | true ↦ λ e _. (0, omega arith, sym (one_name n m e))
  | false ↦ λ _ later. let at = number_of n ms later in (suc at.0, let l = at.1 in omega arith, at.2)
] refl here

-- more rows take no less room
pub row_fits_le : (a b slots : ℕ) → a ≤ b → a * slots ≤ b * slots
row_fits_le zero b slots le = omega arith
row_fits_le (suc a) zero slots le = absurd (omega arith)
row_fits_le (suc a) (suc b) slots le = let f = row_fits_le a b slots (omega arith) in omega arith

-- the place of a cell is below the room for all rows
pub place_low : (names slots k s room : ℕ) → k < names → s < slots → (names + 1) * slots ≤ room → k * slots + s < room
place_low names slots k s room low high fits = let f = row_fits k slots (names + 1) slots (omega arith) (omega arith) in omega arith
