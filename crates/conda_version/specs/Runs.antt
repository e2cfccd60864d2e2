-- A component cut into its maximal runs of digits and of other bytes (docs/FORMATS.md, "Versions").
use Rattle.std.specs.Prelude.{◌≡◌, ℕ, ◌++◌, not, Bool, true, false, List, [], ◌∷◌, map}
use Rattle.std.specs.Char.{is_ascii_digit}
use Rattle.std.specs.List.{concat, list_all}
use Rattle.byte_text.specs.Decimal.{are_digits, decimal_from}
use Rattle.byte_text.specs.Text.{is_nil}
use Rattle.conda_version.specs.Version.{Run, folded, number, word}

-- whether none of some bytes is a digit
abbrev pub are_others : List ℕ → Bool
are_others bytes = list_all (λ b. not (is_ascii_digit b)) bytes

-- pieces with bytes in them, by turns of digits alone and of other bytes alone; the first says which come first
abbrev pub TakeTurns : Bool → List (List ℕ) → Type 0
TakeTurns digits [] = Unit {0}
TakeTurns true (p ∷ ps) = (is_nil p ≡ false) × (are_digits p ≡ true) × TakeTurns false ps
TakeTurns false (p ∷ ps) = (is_nil p ≡ false) × (are_others p ≡ true) × TakeTurns true ps

-- a component is cut into the digits at its front, of which there may be none, and pieces by turns of other bytes and
-- of digits: no piece can be longer, since what stands next to it is of the other kind
pub record IsCutInto (component digits : List ℕ) (later : List (List ℕ)) : Type 0 where
  pub whole : digits ++ concat later ≡ component
  pub front : are_digits digits ≡ true
  pub turns : TakeTurns false later

-- the run that a piece is: of digits a number, of other bytes a word in lower case
abbrev pub run_of : Bool → List ℕ → Run
run_of true piece = number (decimal_from 0 piece)
run_of false piece = word (map folded piece)

-- the runs that some pieces are, by turns
abbrev pub runs_of : Bool → List (List ℕ) → List Run
runs_of digits [] = []
runs_of digits (p ∷ ps) = run_of digits p ∷ runs_of (not digits) ps
