-- The tokens of a constraint's text, each with its place (docs/FORMATS.md, "Constraints").
use Rattle.std.specs.Prelude.{ℕ, suc, ◌==◌, List, [], ◌∷◌, ◌++◌, Option, Some, None, if◌then◌else◌}
use Rattle.gateway_words.specs.Ascii.{comma, left_parenthesis, right_parenthesis, space, vertical_bar}

-- a leaf's text, with the blanks behind it, or one of the four signs between leaves
pub data Token : Type 0 where
  leaf : List ℕ → Token
  left : Token
  right : Token
  and : Token
  or : Token

-- a token, and the place of its first byte
pub record Placed : Type 0 where
  pub at : ℕ
  pub token : Token

-- the sign that a byte is: `(`, `)`, `,` (and) or `|` (or)
abbrev pub sign_of : ℕ → Option Token
sign_of b =
    if b == left_parenthesis then Some left
    else if b == right_parenthesis then Some right
    else if b == comma then Some and
    else if b == vertical_bar then Some or
    else None

-- a leaf that is open, with the place where it began
abbrev pub Open : Type 0
Open = Option (ℕ × List ℕ)

-- the leaf that is open, as a token
abbrev pub closed : Open → List Placed
closed None = []
closed (Some l) = record { at = l.0; token = leaf l.1 } ∷ []

-- the leaf that is open behind a byte that is no sign: a blank opens none
abbrev pub longer : Open → ℕ → ℕ → Open
longer None at b = if b == space then None else Some (at, b ∷ [])
longer (Some l) at b = Some (l.0, l.1 ++ b ∷ [])

-- the leaf that is open behind a byte, which may be a sign
abbrev pub open_behind : Open → ℕ → ℕ → Option Token → Open
open_behind l at b None = longer l at b
open_behind l at b (Some sign) = None

-- the tokens that end with a byte, in front of the later ones: a sign ends the leaf that is open
abbrev pub ended_by : Open → ℕ → Option Token → List Placed → List Placed
ended_by l at None later = later
ended_by l at (Some sign) later = closed l ++ (record { at = at; token = sign } ∷ later)

-- the tokens of some bytes that begin at a place, where a leaf may be open
abbrev pub tokens_from : Open → ℕ → List ℕ → List Placed
tokens_from l at [] = closed l
tokens_from l at (b ∷ rest) =
    ended_by l at (sign_of b) (tokens_from (open_behind l at b (sign_of b)) (suc at) rest)

-- the tokens of a text
abbrev pub tokens : List ℕ → List Placed
tokens text = tokens_from None 0 text
