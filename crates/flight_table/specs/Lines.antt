-- The lines of a table's book: one for each pass and each door, and all of them are so.
use Rattle.std.specs.Prelude.{◌≡◌, ◌⊎◌, ℕ, ◌+◌, ◌<◌, List, [], ◌∷◌, Some, None}
use Rattle.link_io.specs.Origin.{Origin}
use Rattle.link_io.specs.declared.target.Target.{Target}
use Rattle.pass_book.specs.Lines.{Lines, HasLine}
use Rattle.flight_rows.specs.Sight.{Sight}
use Rattle.flight_table.specs.Facts.{Facts, new_pass}
use Rattle.flight_table.specs.Doors.{Gate, whole, first_door, opens, cancels, refreshes, count}
use Rattle.flight_table.specs.Tells.{Tells}
use mathlib.Core.Logic.{inl, inr}

-- a line says what a pass says, or what a door says
abbrev pub Said : Type 0
Said = Facts ⊎ Gate

-- the line of a pass
abbrev pub of_pass : Facts → Said
of_pass p = inl p

-- the line of a door
abbrev pub of_door : Gate → Said
of_door d = inr d

-- the origin of connections without layers and without a world
abbrev pub plain_origin : Origin
plain_origin = record { layers = []; world = None }

-- what a line's pass says
abbrev pub pass_in : Said → Facts
pass_in (inl p) = p
pass_in (inr d) = new_pass 0 0 plain_origin

-- what a line's door says
abbrev pub door_in : Said → Gate
door_in (inl p) = first_door 0 [] plain_origin
door_in (inr d) = d

-- what a line counts for: its weight, and its three numbers
abbrev pub of_gate : (Gate → ℕ) → Said → ℕ
of_gate number (inl p) = 0
of_gate number (inr d) = number d

-- the sum over all lines
abbrev pub total : (Said → ℕ) → Lines Said → ℕ
total number [] = 0
total number (None ∷ lines) = total number lines
total number (Some line ∷ lines) = number line + total number lines

-- each line of a pass is so, and no two are of one query
pub record PassesAreSo (t : Sight) (lines : Lines Said) : Type 0 where
  pub told : (n : ℕ) (p : Facts) → HasLine lines n (of_pass p) → Tells t p
  pub apart : (m n : ℕ) (p r : Facts) → HasLine lines m (of_pass p) → HasLine lines n (of_pass r) → p.query ≡ r.query → m ≡ n

-- a door says the budget, the start and the origin, and has a share
pub record DoorIsSo (keep : ℕ) (start : List Target) (origin : Origin) (d : Gate) : Type 0 where
  pub keep_so : d.keep ≡ keep
  pub start_so : d.start ≡ start
  pub origin_so : d.origin ≡ origin
  pub weighs : 0 < d.weight

-- each line of a door is so, and all doors together have the whole weight and these three numbers
pub record DoorsAreSo (keep : ℕ) (start : List Target) (origin : Origin) (opened cancelled refreshed : ℕ) (lines : Lines Said) : Type 0 where
  pub each : (n : ℕ) (d : Gate) → HasLine lines n (of_door d) → DoorIsSo keep start origin d
  pub weights : total (of_gate (λ d. d.weight)) lines ≡ whole
  pub opened_so : total (of_gate (λ d. d.opened)) lines ≡ opened
  pub cancelled_so : total (of_gate (λ d. d.cancelled)) lines ≡ cancelled
  pub refreshed_so : total (of_gate (λ d. d.refreshed)) lines ≡ refreshed

-- all lines of a table's book are so
pub record AreSo (t : Sight) (lines : Lines Said) : Type 0 where
  pub passes : PassesAreSo t lines
  pub doors : DoorsAreSo t.keep t.start t.origin (count opens t.journal) (count cancels t.journal) (count refreshes t.journal) lines

-- what contracts see of a table that was taken apart: what it was, and the lines that are left
pub record Apart : Type 0 where
  pub was : Sight
  pub lines : Lines Said
