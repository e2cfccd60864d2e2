-- Lists by number.
use Rattle.std.proofs.Common.{◌≡◌, ◌≢◌, ℕ, zero, suc, ◌+◌, List, [], ◌∷◌, ◌++◌, length, map, Some, slice_get, slice_set, refl, ap, arith}
use Rattle.std.specs.Option.{option_map}
use Rattle.flight_journal.specs.State.{change}

module _ {X : Type 0} where
  -- nothing stands in the empty list
  pub none_in_nothing : (n : ℕ) (x : X) → slice_get [] n ≡ Some x → ⊥
  none_in_nothing n x e = cc

  -- ---- one element changes
  pub get_changed : (n : ℕ) (g : X → X) (xs : List X) → slice_get (change n g xs) n ≡ option_map g (slice_get xs n)
  get_changed n g [] = refl
  get_changed zero g (x ∷ xs) = refl
  get_changed (suc n) g (x ∷ xs) = get_changed n g xs

  pub get_unchanged : (n m : ℕ) (g : X → X) (xs : List X) → m ≢ n → slice_get (change n g xs) m ≡ slice_get xs m
  get_unchanged n m g [] ne = refl
  get_unchanged zero zero g (x ∷ xs) ne = absurd (ne refl)
  get_unchanged zero (suc m) g (x ∷ xs) ne = refl
  get_unchanged (suc n) zero g (x ∷ xs) ne = refl
  get_unchanged (suc n) (suc m) g (x ∷ xs) ne = get_unchanged n m g xs (λ e. ne (ap suc e))

  pub length_change : (n : ℕ) (g : X → X) (xs : List X) → length (change n g xs) ≡ length xs
  length_change n g [] = refl
  length_change zero g (x ∷ xs) = refl
  length_change (suc n) g (x ∷ xs) = ap suc (length_change n g xs)

  -- ---- one element more at the end
  pub get_last : (xs : List X) (x : X) → slice_get (xs ++ x ∷ []) (length xs) ≡ Some x
  get_last [] x = refl
  get_last (y ∷ xs) x = get_last xs x

  pub get_before_last : (xs : List X) (x : X) (m : ℕ) → m ≢ length xs → slice_get (xs ++ x ∷ []) m ≡ slice_get xs m
  get_before_last [] x zero ne = absurd (ne refl)
  get_before_last [] x (suc m) ne = refl
  get_before_last (y ∷ xs) x zero ne = refl
  get_before_last (y ∷ xs) x (suc m) ne = get_before_last xs x m (λ e. ne (ap suc e))

  pub length_more : (xs : List X) (x : X) → length (xs ++ x ∷ []) ≡ length xs + 1
  length_more [] x = refl
  length_more (y ∷ xs) x = let h = length_more xs x in omega arith

  -- ---- each element changes
  pub get_map : {Y : Type 0} (g : X → Y) (xs : List X) (n : ℕ) → slice_get (map g xs) n ≡ option_map g (slice_get xs n)
  get_map g [] n = refl
  get_map g (x ∷ xs) zero = refl
  get_map g (x ∷ xs) (suc n) = get_map g xs n

  -- ---- one element is set
  pub get_set : (n : ℕ) (y : X) (xs : List X) (x : X) → slice_get xs n ≡ Some x → slice_get (slice_set xs n y) n ≡ Some y
  get_set n y [] x e = cc
  get_set zero y (z ∷ xs) x e = refl
  get_set (suc n) y (z ∷ xs) x e = get_set n y xs x e

  pub get_unset : (n m : ℕ) (y : X) (xs : List X) → m ≢ n → slice_get (slice_set xs n y) m ≡ slice_get xs m
  get_unset n m y [] ne = refl
  get_unset zero zero y (z ∷ xs) ne = absurd (ne refl)
  get_unset zero (suc m) y (z ∷ xs) ne = refl
  get_unset (suc n) zero y (z ∷ xs) ne = refl
  get_unset (suc n) (suc m) y (z ∷ xs) ne = get_unset n m y xs (λ e. ne (ap suc e))

  pub length_set : (n : ℕ) (y : X) (xs : List X) → length (slice_set xs n y) ≡ length xs
  length_set n y [] = refl
  length_set zero y (z ∷ xs) = refl
  length_set (suc n) y (z ∷ xs) = ap suc (length_set n y xs)
