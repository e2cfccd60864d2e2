-- What the seat of a book and those of its slips know, and what each step makes of it. No public
-- clause cites this module.
use Rattle.std.specs.Prelude.{◌≡◌, ◌⊎◌, ℕ, List, [], ◌∷◌, ◌++◌, length, slice_set, Option, Some, None, refl, ⊤}
use Rattle.std.specs.Coded.{Coded, code_by, coded×, coded⊎, coded_ℕ, coded_list, coded_option}
use mathlib.Core.Logic.{inl, inr}
use mathlib.Core.Option.{some}
use lib.ListN.{get_elem?}
use Rattle.pass_book.specs.Lines.{Lines, HasLine}

-- the book's seat knows all lines and the slip that is taken in; a slip's seat knows its number and line
pub data View (T : Type 0) : Type 0 where
  of_book : List (Option T) → Option (ℕ × T) → View T
  of_slip : ℕ → T → View T
  spent : View T

module _ {T : Type 0} where
  -- ---- the code of a view
  abbrev pub parts_of : View T → (List (Option T) × Option (ℕ × T)) ⊎ Option (ℕ × T)
  parts_of (of_book lines held) = inl (lines, held)
  parts_of (of_slip number line) = inr (Some (number, line))
  parts_of spent = inr None

  abbrev pub view_of : (List (Option T) × Option (ℕ × T)) ⊎ Option (ℕ × T) → View T
  view_of (inl p) = of_book p.0 p.1
  view_of (inr (Some p)) = of_slip p.0 p.1
  view_of (inr None) = spent

  pub view_of_parts : (v : View T) → view_of (parts_of v) ≡ v
  view_of_parts (of_book lines held) = refl
  view_of_parts (of_slip number line) = refl
  view_of_parts spent = refl

  abbrev pub view_code : Coded T → Coded (View T)
  view_code code =
      code_by ((List (Option T) × Option (ℕ × T)) ⊎ Option (ℕ × T)) (coded⊎ (coded× (coded_list (coded_option code)) (coded_option (coded× coded_ℕ code))) (coded_option (coded× coded_ℕ code))) parts_of view_of view_of_parts

  -- ---- what a view shows
  abbrev pub lines_of : View T → Lines T
  lines_of (of_book lines held) = lines
  lines_of (of_slip number line) = []
  lines_of spent = []

  -- the slip of a seat, or the blank one where it has none
  abbrev pub slip_of : T → View T → ℕ × T
  slip_of blank (of_book lines held) = (0, blank)
  slip_of blank (of_slip number line) = (number, line)
  slip_of blank spent = (0, blank)

  abbrev pub first_slip : T → List (View T) → ℕ × T
  first_slip blank [] = (0, blank)
  first_slip blank (v ∷ views) = slip_of blank v

  -- ---- split: the slip that is taken in goes out
  abbrev pub put_out : View T → View T
  put_out (of_book lines held) = of_book lines None
  put_out (of_slip number line) = of_slip number line
  put_out spent = spent

  abbrev pub out_of : Option (ℕ × T) → View T
  out_of (Some p) = of_slip p.0 p.1
  out_of None = spent

  abbrev pub gone_out : View T → View T
  gone_out (of_book lines held) = out_of held
  gone_out (of_slip number line) = spent
  gone_out spent = spent

  -- ---- join: a slip is taken in
  abbrev pub held_of : View T → Option (ℕ × T)
  held_of (of_book lines held) = None
  held_of (of_slip number line) = Some (number, line)
  held_of spent = None

  abbrev pub taken_in : View T → View T → View T
  taken_in (of_book lines held) other = of_book lines (held_of other)
  taken_in (of_slip number line) other = of_slip number line
  taken_in spent other = spent

  -- ---- load: the slip that is taken in has the book's line
  abbrev pub HeldAgrees : View T → Type 0
  HeldAgrees (of_book lines (Some p)) = HasLine lines p.0 p.1
  HeldAgrees (of_book lines None) = ⊤
  HeldAgrees (of_slip number line) = ⊤
  HeldAgrees spent = ⊤

  -- ---- new line: it stands behind all others, and its slip is taken in
  abbrev pub issued : View T → T → View T
  issued (of_book lines held) line = of_book (lines ++ Some line ∷ []) (Some (length lines, line))
  issued (of_slip number was) line = of_slip number was
  issued spent line = spent

  -- ---- change: the line of the slip that is taken in is another one
  abbrev pub change_held : Lines T → Option (ℕ × T) → T → View T
  change_held lines (Some p) line = of_book (slice_set lines p.0 (Some line)) (Some (p.0, line))
  change_held lines None line = of_book lines None

  abbrev pub changed : View T → T → View T
  changed (of_book lines held) line = change_held lines held line
  changed (of_slip number was) line = of_slip number was
  changed spent line = spent

  -- or it is taken back, with its slip
  abbrev pub remove_held : Lines T → Option (ℕ × T) → View T
  remove_held lines (Some p) = of_book (slice_set lines p.0 None) None
  remove_held lines None = of_book lines None

  abbrev pub removed : View T → View T
  removed (of_book lines held) = remove_held lines held
  removed (of_slip number line) = of_slip number line
  removed spent = spent

  -- ---- the rule
  abbrev pub HeldFits : ℕ → Lines T → (ℕ → ℕ) → Option (ℕ × T) → Type 0
  HeldFits book lines seat_of (Some p) = (seat_of p.0 ≡ book) × HasLine lines p.0 p.1
  HeldFits book lines seat_of None = ⊤

  -- what the rule says of one seat
  abbrev pub Fits : ℕ → Lines T → (ℕ → ℕ) → ℕ → View T → Type 0
  Fits book lines seat_of seat (of_book known held) = (seat ≡ book) × (known ≡ lines) × HeldFits book lines seat_of held
  Fits book lines seat_of seat (of_slip number line) = (seat_of number ≡ seat) × HasLine lines number line
  Fits book lines seat_of seat spent = ⊤

  -- one seat is the book's, each slip's line is the book's, and no number is at two seats
  abbrev pub Kept : List (View T) → Type 0
  Kept views = (book : ℕ) × (lines : Lines T) × (seat_of : ℕ → ℕ) × ((seat : ℕ) (v : View T) → get_elem? views seat ≡ some v → Fits book lines seat_of seat v)

  abbrev pub opened : View T
  opened = of_book [] None
