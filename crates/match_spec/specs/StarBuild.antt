-- Which builds a build with stars matches (docs/FORMATS.md, "Specs").
use Rattle.std.specs.Prelude.{◌≡◌, ℕ, ◌==◌, ◌||◌, ◌&&◌, Bool, List, [], ◌∷◌, ◌++◌, Option, Some, None, if◌then◌else◌}
use Rattle.gateway_words.specs.Ascii.{asterisk}
use Rattle.byte_text.specs.Text.{begins_at, is_nil}

-- the first of some texts, and the empty one where there is none
abbrev pub first_text : List (List ℕ) → List ℕ
first_text [] = []
first_text (t ∷ ts) = t

-- the texts behind the first one
abbrev pub later_texts : List (List ℕ) → List (List ℕ)
later_texts [] = []
later_texts (t ∷ ts) = ts

-- a build with texts in the places of its stars, one after the other
abbrev pub filled : List ℕ → List (List ℕ) → List ℕ
filled [] ts = []
filled (b ∷ rest) ts = if b == asterisk then first_text ts ++ filled rest (later_texts ts) else b ∷ filled rest ts

-- each `*` of the build stands for some text, so that the whole is this one
abbrev pub FitsBuild : List ℕ → List ℕ → Type 0
FitsBuild build text = (ts : List (List ℕ)) × (filled build ts ≡ text)

-- ---- the same as a test

-- a text without its first byte
abbrev pub tail_of : List ℕ → List ℕ
tail_of [] = []
tail_of (b ∷ rest) = rest

-- whether a text, or what stands behind some bytes of it, passes a test
abbrev pub some_end : (List ℕ → Bool) → List ℕ → Bool
some_end passes [] = passes []
some_end passes (b ∷ rest) = passes (b ∷ rest) || some_end passes rest

-- whether a build with stars fits a text
abbrev pub fits_build : List ℕ → List ℕ → Bool
fits_build [] text = is_nil text
fits_build (b ∷ rest) text =
    if b == asterisk then some_end (fits_build rest) text else begins_at b text && fits_build rest (tail_of text)

-- what stands behind a piece with which a text begins, if it does
abbrev pub behind_start : List ℕ → List ℕ → Option (List ℕ)
behind_start [] text = Some text
behind_start (p ∷ piece) [] = None
behind_start (p ∷ piece) (b ∷ rest) = if b == p then behind_start piece rest else None

-- the first, or the second where there is no first
abbrev pub or_else : Option (List ℕ) → Option (List ℕ) → Option (List ℕ)
or_else None later = later
or_else (Some text) later = Some text

-- what stands behind the first place at which a piece stands in a text, if it does
abbrev pub behind_first : List ℕ → List ℕ → Option (List ℕ)
behind_first piece [] = behind_start piece []
behind_first piece (b ∷ rest) = or_else (behind_start piece (b ∷ rest)) (behind_first piece rest)
