-- What a constraint's text reads as, and which of its faults is answered (docs/FORMATS.md, "Constraints").
use Rattle.std.specs.Prelude.{◌≡◌, ◌⊎◌, ℕ, ◌+◌, ◌==◌, ◌&&◌, ◌||◌, nat_lt, nat_le, not, Bool, true, false, List, [], ◌∷◌, ◌++◌, length, map, Option, Some, None, Result, Ok, Err, if◌then◌else◌}
use Rattle.gateway_words.specs.Places.{IsFirst}
use Rattle.conda_version.specs.Order.{others}
use Rattle.conda_version.specs.Leaf.{Test, leaf_of}
use Rattle.conda_version.specs.Token.{Placed, Token, leaf, left, right, and, or, tokens}
use Rattle.conda_version.specs.declared.fault.ConstraintFault.{ConstraintFault}
use Rattle.conda_version.specs.declared.fault.ConstraintFault.TheVariants as fault
use Rattle.conda_version.specs.declared.fault.ConstraintRefusal.{ConstraintRefusal}
use Rattle.conda_version.specs.declared.fault.ConstraintRefusal.TheVariants as refusal

-- ---- the faults that stand in a text

-- how many levels of parentheses a constraint may have
abbrev pub most_levels : ℕ
most_levels = 64

-- a fault, where something is so
abbrev pub if_so : Bool → ConstraintFault → List ConstraintFault
if_so true f = f ∷ []
if_so false f = []

-- a fault of something that begins this much further on
abbrev pub shifted : ℕ → ConstraintFault → ConstraintFault
shifted from (fault.Empty at) = fault.Empty (from + at)
shifted from (fault.Operator at) = fault.Operator (from + at)
shifted from (fault.Version at) = fault.Version (from + at)
shifted from (fault.Paren at) = fault.Paren (from + at)
shifted from (fault.Star at) = fault.Star (from + at)

-- the fault of a leaf that begins at a place
abbrev pub leaf_faults : ℕ → Result Test ConstraintFault → List ConstraintFault
leaf_faults at (Ok test) = []
leaf_faults at (Err f) = shifted at f ∷ []

-- the faults that stand at a token: whether an item stands right before it, and how many `(` are open
abbrev pub faults_here : Bool → ℕ → ℕ → Token → List ConstraintFault
faults_here item depth at (leaf text) = if_so item (fault.Paren at) ++ leaf_faults at (leaf_of text)
faults_here item depth at left = if_so (item || nat_le most_levels depth) (fault.Paren at)
faults_here item depth at right = if_so (not item) (fault.Empty at) ++ if_so (depth == 0) (fault.Paren at)
faults_here item depth at and = if_so (not item) (fault.Empty at)
faults_here item depth at or = if_so (not item) (fault.Empty at)

-- whether a token ends an item: a leaf does, and a `)`
abbrev pub ends_item : Token → Bool
ends_item (leaf text) = true
ends_item left = false
ends_item right = true
ends_item and = false
ends_item or = false

-- the places of the `(` that are open behind a token, the innermost first
abbrev pub open_after : List ℕ → ℕ → Token → List ℕ
open_after open_at at (leaf text) = open_at
open_after open_at at left = at ∷ open_at
open_after open_at at right = others open_at
open_after open_at at and = open_at
open_after open_at at or = open_at

-- all faults of some tokens and of the end: an item that is missing there, and each `(` that is never closed; open_at
-- has the places of the `(` that are open
abbrev pub faults_from : Bool → List ℕ → ℕ → List Placed → List ConstraintFault
faults_from item open_at end [] = if_so (not item) (fault.Empty end) ++ map (λ at. fault.Paren at) open_at
faults_from item open_at end (p ∷ ps) =
    faults_here item (length open_at) p.at p.token
    ++ faults_from (ends_item p.token) (open_after open_at p.at p.token) end ps

-- all faults that stand in a text
abbrev pub faults : List ℕ → List ConstraintFault
faults text = faults_from false [] (length text) (tokens text)

-- ---- the one that is answered

-- where a fault stands
abbrev pub place_of : ConstraintFault → ℕ
place_of (fault.Empty at) = at
place_of (fault.Operator at) = at
place_of (fault.Version at) = at
place_of (fault.Paren at) = at
place_of (fault.Star at) = at

-- the number of a fault in print, which decides at one place
abbrev pub constraint_fault_number : ConstraintFault → ℕ
constraint_fault_number (fault.Empty at) = 1
constraint_fault_number (fault.Operator at) = 2
constraint_fault_number (fault.Version at) = 3
constraint_fault_number (fault.Paren at) = 4
constraint_fault_number (fault.Star at) = 5

-- whether g comes before f: at an earlier place, or at the same one with a lower number
abbrev pub comes_before : ConstraintFault → ConstraintFault → Bool
comes_before g f = nat_lt (place_of g) (place_of f) || (place_of g == place_of f && nat_lt (constraint_fault_number g) (constraint_fault_number f))

-- f stands among some faults
abbrev pub StandsIn : List ConstraintFault → ConstraintFault → Type 0
StandsIn [] f = ⊥
StandsIn (g ∷ gs) f = (f ≡ g) ⊎ StandsIn gs f

-- f is not behind g: g doesn't come before it
abbrev pub NotBehind : ConstraintFault → ConstraintFault → Type 0
NotBehind f g = comes_before g f ≡ false

-- the fault stands in the text, and no other one before it
abbrev pub IsFirstFault : List ℕ → ConstraintFault → Type 0
IsFirstFault text = IsFirst NotBehind (StandsIn (faults text))

-- the earlier of two faults, where there is a first one
abbrev pub earlier : Option ConstraintFault → ConstraintFault → ConstraintFault
earlier None g = g
earlier (Some f) g = if comes_before g f then g else f

-- the first of some faults, and of one that is known already
abbrev pub first_of : Option ConstraintFault → List ConstraintFault → Option ConstraintFault
first_of best [] = best
first_of best (f ∷ fs) = first_of (Some (earlier best f)) fs

-- the fault of a text that is answered, if one stands in it
unfoldable pub constraint_fault : List ℕ → Option ConstraintFault
constraint_fault text = first_of None (faults text)

-- a text, unless it has a fault
abbrev pub unless_fault : List ℕ → Option ConstraintFault → Result (List ℕ) ConstraintFault
unless_fault text None = Ok text
unless_fault text (Some f) = Err f

-- what a text reads as: a constraint, which is its text, or its first fault
abbrev pub constraint_of : List ℕ → Result (List ℕ) ConstraintFault
constraint_of text = unless_fault text (constraint_fault text)

-- the fault of a refusal, which has none where memory ran out
abbrev pub fault_of : ConstraintRefusal → Option ConstraintFault
fault_of (refusal.Fault f) = Some f
fault_of refusal.Memory = None
