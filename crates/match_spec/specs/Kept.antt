-- The version and the build behind a name, without the blanks that don't count (docs/FORMATS.md, "Specs").
use Rattle.std.specs.Prelude.{ℕ, suc, ◌-◌, ◌==◌, ◌&&◌, ◌||◌, not, Bool, false, List, [], ◌∷◌, ◌++◌, length, reverse, take, drop, map, filter, codes, Option, Some, None, if◌then◌else◌}
use Rattle.std.specs.Char.{is_ascii_alphanumeric}
use Rattle.std.specs.List.{list_all, list_any}
use Rattle.gateway_words.specs.Ascii.{asterisk, equals_sign, space}
use Rattle.conda_version.specs.Grammar.{is_version_byte}
use Rattle.conda_version.specs.Leaf.{ends_in_star, is_text, signs, strip_end, strip_front}
use Rattle.byte_text.specs.Text.{begins_at, cut_at, drop_blanks, skip_blanks}
use Rattle.match_spec.specs.Signs.{is_mark}

-- ---- blanks that are dropped

-- the eight operators
abbrev pub operators : List (List ℕ)
operators =
    codes "==" ∷ codes "!=" ∷ codes "<=" ∷ codes ">=" ∷ codes "~=" ∷ codes "<" ∷ codes ">" ∷ codes "=" ∷ []

-- whether a run of signs is an operator
abbrev pub is_operator : List ℕ → Bool
is_operator run = list_any (λ operator. is_text run operator) operators

-- the run of signs with which a text ends
abbrev pub last_signs : List ℕ → List ℕ
last_signs text = reverse (signs (reverse text))

-- whether the first byte is a mark
abbrev pub begins_with_mark : List ℕ → Bool
begins_with_mark [] = false
begins_with_mark (b ∷ rest) = is_mark b

-- whether the last byte is a mark
abbrev pub ends_in_mark : List ℕ → Bool
ends_in_mark text = begins_with_mark (reverse text)

-- whether blanks between two texts are dropped: the first ends in a mark or an operator, or the second begins with a mark
abbrev pub are_bound : List ℕ → List ℕ → Bool
are_bound before after = ends_in_mark before || is_operator (last_signs before) || begins_with_mark after

-- whether blanks at a place stay: what stands before them isn't bound to what stands behind them
abbrev pub blanks_stay : List ℕ → ℕ → Bool
blanks_stay text n = not (are_bound (drop_blanks (take n text)) (skip_blanks (drop n text)))

-- whether the byte at a place stays: it is no blank, or one that isn't dropped
abbrev pub stays : List ℕ → ℕ → Bool
stays text n = not (begins_at space (drop n text)) || blanks_stay text n

-- whether the blank at a place stays, where one stands there
abbrev pub blank_at : List ℕ → ℕ → Option Bool
blank_at text n = if begins_at space (drop n text) then Some (blanks_stay text n) else None

-- a byte, and its place among those behind the name
pub record Placed : Type 0 where
  pub at : ℕ
  pub byte : ℕ

-- the bytes of a text with their places, from a place on
abbrev pub placed_from : ℕ → List ℕ → List Placed
placed_from at [] = []
placed_from at (b ∷ rest) = record { at = at; byte = b } ∷ placed_from (suc at) rest

-- the bytes of a text that stay, each with its place
unfoldable pub kept : List ℕ → List Placed
kept text = filter (λ (p : Placed). stays text p.at) (placed_from 0 text)

-- bytes without their places
abbrev pub bytes_of : List Placed → List ℕ
bytes_of ps = map (λ (p : Placed). p.byte) ps

-- ---- the form `V=B`

-- whether a text begins with a letter or a digit, and goes on with bytes of a version
abbrev pub is_plain_version : List ℕ → Bool
is_plain_version [] = false
is_plain_version (b ∷ rest) = is_ascii_alphanumeric b && list_all is_version_byte rest

-- whether a text is the version of the form: `*`, or a plain version, perhaps with a `*` behind it
abbrev pub is_form_version : List ℕ → Bool
is_form_version text = is_text text (codes "*") || is_plain_version (strip_end asterisk text)

-- whether a byte is one of the build of the form: no `=` and no blank
abbrev pub is_form_byte : ℕ → Bool
is_form_byte b = not (b == equals_sign) && not (b == space)

-- a version and a build, where they are those of the form
abbrev pub form_by : Option (List ℕ × List ℕ) → Option (List ℕ × List ℕ)
form_by None = None
form_by (Some p) = if is_form_version p.0 && list_all is_form_byte p.1 then Some p else None

-- the version and the build of a text of the form `V=B`, `=V=B` or `==V=B`
abbrev pub form_of : List ℕ → Option (List ℕ × List ℕ)
form_of text = form_by (cut_at equals_sign (strip_front equals_sign (strip_front equals_sign text)))

-- the constraint of the form's version: the version itself where it ends in a star, else equality with it
abbrev pub form_constraint : List ℕ → List ℕ
form_constraint version = if ends_in_star version then version else codes "==" ++ version

-- ---- the version and the build

-- the place of the first of some bytes, or the end where there is none
abbrev pub place_in : ℕ → List Placed → ℕ
place_in end [] = end
place_in end (p ∷ ps) = p.at

-- the place where the last n of some bytes begin
abbrev pub place_of_last : ℕ → ℕ → List Placed → ℕ
place_of_last n end ps = place_in end (drop (length ps - n) ps)
