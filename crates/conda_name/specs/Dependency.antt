-- The name that a `depends` text is about (docs/FORMATS.md, "Names").
use Rattle.std.specs.Prelude.{ℕ, ◌==◌, ◌&&◌, List, [], ◌∷◌, Option, Some, None, if◌then◌else◌}
use Rattle.std.specs.List.{take_while}
use Rattle.std.specs.Option.{unwrap_or}
use Rattle.gateway_words.specs.Ascii.{colon}
use Rattle.byte_text.specs.Text.{skip_blanks}
use Rattle.conda_name.specs.Name.{is_name_byte}

-- what stands behind a `::` at the front, if one is there
abbrev pub behind_front : List ℕ → Option (List ℕ)
behind_front [] = None
behind_front (a ∷ []) = None
behind_front (a ∷ b ∷ rest) = if a == colon && b == colon then Some rest else None

-- the first, or the second where there is no first
abbrev pub or_else : Option (List ℕ) → Option (List ℕ) → Option (List ℕ)
or_else None later = later
or_else (Some text) later = Some text

-- what stands behind the last place at which `::` stands, if one does
abbrev pub behind_last : List ℕ → Option (List ℕ)
behind_last [] = None
behind_last (b ∷ rest) = or_else (behind_last rest) (behind_front (b ∷ rest))

-- the text behind the last `::`, or the whole text
abbrev pub behind_channel : List ℕ → List ℕ
behind_channel text = unwrap_or (behind_last text) text

-- the longest run of bytes of a name with which a text begins
abbrev pub name_run : List ℕ → List ℕ
name_run text = take_while is_name_byte text

-- a text, and nothing for the empty one
abbrev pub unless_empty : List ℕ → Option (List ℕ)
unless_empty [] = None
unless_empty (b ∷ rest) = Some (b ∷ rest)

-- the name that a text is about: the run behind the last `::` and blanks, if it isn't empty
abbrev pub dependency_name : List ℕ → Option (List ℕ)
dependency_name text = unless_empty (name_run (skip_blanks (behind_channel text)))
