-- A version as lists of components, each a list of runs (docs/FORMATS.md, "Versions").
use Rattle.std.specs.Prelude.{ℕ, ◌==◌, ◌&&◌, ◌||◌, not, Bool, true, false, List, [], ◌∷◌, ◌++◌, map, if◌then◌else◌}
use Rattle.std.specs.Char.{is_ascii_digit, to_ascii_lowercase}
use Rattle.gateway_words.specs.Ascii.{dash, dot, underscore}
use Rattle.byte_text.specs.Decimal.{with_digit}
use Rattle.byte_text.specs.Text.{is_nil}

-- a run of a component: a number, or a word in lower case
pub data Run : Type 0 where
  number : ℕ → Run
  word : List ℕ → Run

-- a version: the epoch and the main components, and the local components
pub record Value : Type 0 where
  pub release : List (List Run)
  pub local : List (List Run)

-- a byte of a word: a letter in lower case, and `-` as `_`
abbrev pub folded : ℕ → ℕ
folded b = if b == dash then underscore else to_ascii_lowercase b

-- the run that is open behind a byte: a digit goes on with a number, another byte with a word
abbrev pub open_run : Run → ℕ → Run
open_run (number n) b = if is_ascii_digit b then number (with_digit n b) else word (folded b ∷ [])
open_run (word w) b = if is_ascii_digit b then number (with_digit 0 b) else word (w ++ folded b ∷ [])

-- whether a byte goes on with the run: a digit with a number, another byte with a word
abbrev pub continues : Run → ℕ → Bool
continues (number n) b = is_ascii_digit b
continues (word w) b = not (is_ascii_digit b)

-- a run in front of the later ones, where the next byte doesn't go on with it
abbrev pub unless : Bool → Run → List Run → List Run
unless true run later = later
unless false run later = run ∷ later

-- the runs of some bytes, from an open run on
abbrev pub runs_from : Run → List ℕ → List Run
runs_from run [] = run ∷ []
runs_from run (b ∷ rest) = unless (continues run b) run (runs_from (open_run run b) rest)

-- the runs of a component, of which the first is a number: 0 where no digit comes first
abbrev pub runs : List ℕ → List Run
runs component = runs_from (number 0) component

-- `_`, also as `-`
abbrev pub is_underscore : ℕ → Bool
is_underscore b = b == underscore || b == dash

-- whether a byte with this rest behind it ends a component: a `.` or a `_`, but no `_` at the end
abbrev pub cuts : ℕ → List ℕ → Bool
cuts b rest = b == dot || (is_underscore b && not (is_nil rest))

-- a byte in front of the components of what follows: it cuts, or it belongs to the first of them
abbrev pub in_front : Bool → ℕ → List (List ℕ) → List (List ℕ)
in_front true b cs = [] ∷ cs
in_front false b [] = (b ∷ []) ∷ []
in_front false b (c ∷ cs) = (b ∷ c) ∷ cs

-- the components of a part: cut at each `.` and `_`, where a `_` at the end stays with the last one
abbrev pub components : List ℕ → List (List ℕ)
components [] = [] ∷ []
components (b ∷ rest) = in_front (cuts b rest) b (components rest)

-- the components of a part, each as the list of its runs
abbrev pub lists : List ℕ → List (List Run)
lists part = map runs (components part)
