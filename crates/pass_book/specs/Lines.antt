-- The lines of a book: a finite map from number to line, in which a number is never given twice.
use Rattle.std.specs.Prelude.{◌≡◌, ℕ, zero, suc, List, [], ◌∷◌, Option, Some, None}
use Rattle.atomic_table.specs.Seated.{TableId}

-- by number, from 0 on: the line, or None where it was taken back
abbrev pub Lines : Type 0 → Type 0
Lines T = List (Option T)

-- the line of a number, if it has one
abbrev pub line_at : {T : Type 0} → Lines T → ℕ → Option T
line_at [] number = None
line_at (line ∷ lines) zero = line
line_at (line ∷ lines) (suc number) = line_at lines number

-- the number has this line
abbrev pub HasLine : {T : Type 0} → Lines T → ℕ → T → Type 0
HasLine lines number line = line_at lines number ≡ Some line

-- what stands for a name where none is picked
abbrev pub no_table : TableId
no_table = record { words = 0; slots = 0; views_name = 0; atom = 0; block = 0; offset = 0; slot_names = [] }
