-- Places in some bytes, and the first of several faults.
use Rattle.std.specs.Prelude.{◌≡◌, ℕ, ◌+◌, List, ◌++◌, length, drop}

-- a place, and the bytes from there on
pub record Position : Type 0 where
  pub at : ℕ
  pub left : List ℕ

-- the place where some bytes begin
abbrev pub start_of : List ℕ → Position
start_of bytes = record { at = 0; left = bytes }

-- the position behind n bytes
abbrev pub behind : ℕ → Position → Position
behind n here = record { at = here.at + n; left = drop n here.left }

-- the place where the bytes end
abbrev pub end_of : Position → ℕ
end_of here = here.at + length here.left

-- these are the bytes between two positions
pub record Between (bytes : List ℕ) (here there : Position) : Type 0 where
  pub left : here.left ≡ bytes ++ there.left
  pub at : there.at ≡ here.at + length bytes

-- f stands among some faults, and each of them comes behind f or is f
pub record IsFirst {F : Type 0} (Before : F → F → Type 0) (faults : F → Type 0) (f : F) : Type 0 where
  pub stands : faults f
  pub first : (g : F) → faults g → Before f g
