-- The pieces of a text, which is cut at each `,`.
use Rattle.std.specs.Prelude.{ℕ, ◌+◌, ◌==◌, List, [], length, Option, Some, None}
use Rattle.std.specs.List.{slice_split}
use Rattle.std.specs.Borrow.{Bor}
use Rattle.gateway_words.specs.Ascii.{comma}

-- the pieces of a text
abbrev pub pieces : List ℕ → List (List ℕ)
pieces text = slice_split (λ b. b == comma) text

-- the pieces of what is left, and none where nothing is
abbrev pub pieces_left : Option (Bor (List ℕ)) → List (List ℕ)
pieces_left None = []
pieces_left (Some text) = pieces text.now

-- how much is left, where even an empty text counts
abbrev pub size_left : Option (Bor (List ℕ)) → ℕ
size_left None = 0
size_left (Some text) = 1 + length text.now
