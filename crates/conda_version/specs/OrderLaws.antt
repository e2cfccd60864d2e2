-- What the laws of the order of versions say.
use Rattle.std.specs.Prelude.{◌≡◌, slice_index_or, ℕ, ◌++◌, ◌||◌, ◌==◌, Bool, List, [], ◌∷◌}
use Rattle.gateway_words.specs.Ascii.{dot}
use Rattle.std.specs.declared.cmp.Ordering.TheVariants.{Equal}
use Rattle.conda_version.specs.Order.{version_cmp, version_starts_with}
use Rattle.conda_version.specs.Version.{Run, number, Value, in_front, is_underscore}

-- the run at a place of a component, 0 where there is none
abbrev pub run_at : List (List Run) → ℕ → ℕ → Run
run_at xs component place = slice_index_or (slice_index_or xs component []) place (number 0)

-- two versions have the same runs at every place, with 0 for what is missing: their padded lists are equal
pub record HaveSameRuns (v w : Value) : Type 0 where
  pub release : (component place : ℕ) → run_at v.release component place ≡ run_at w.release component place
  pub local : (component place : ℕ) → run_at v.local component place ≡ run_at w.local component place

-- versions that tie start with the same versions
abbrev pub TiesStartAlike : Type 0
TiesStartAlike =
    (v w p : Value) → version_cmp v w ≡ Equal → version_starts_with v p ≡ version_starts_with w p

-- ---- the written rule of the `_` at the end

-- a `.` or a `_`
abbrev pub is_separator : ℕ → Bool
is_separator b = b == dot || is_underscore b

-- a part cut at each `.` and `_`
abbrev pub cut_everywhere : List ℕ → List (List ℕ)
cut_everywhere [] = [] ∷ []
cut_everywhere (b ∷ rest) = in_front (is_separator b) b (cut_everywhere rest)

-- components with a byte put behind the last one
abbrev pub put_back : List (List ℕ) → ℕ → List (List ℕ)
put_back [] b = (b ∷ []) ∷ []
put_back (c ∷ []) b = (c ++ b ∷ []) ∷ []
put_back (c ∷ d ∷ cs) b = c ∷ put_back (d ∷ cs) b
