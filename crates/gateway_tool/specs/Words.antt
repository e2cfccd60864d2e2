-- The words of a command line, and what they ask for.
use Rattle.std.specs.Prelude.{ℕ, Bool, false, ◌==◌, List, [], ◌∷◌, Option, Some, None, if◌then◌else◌, codes}
use Rattle.std.specs.Result.{result_ok}
use Rattle.std.specs.Str.{bytes_eq}
use Rattle.gateway_words.specs.Ascii.{dash}
use Rattle.channel_store.specs.Names.{is_place}
use Rattle.match_spec.specs.Parts.{Meaning}
use Rattle.match_spec.specs.Reading.{spec_of}

-- the word could be taken for an option: it begins with a dash
abbrev pub is_option : List ℕ → Bool
is_option [] = false
is_option (b ∷ bs) = b == dash

-- the spec that a word is, if it is one and no option
abbrev pub spec_word : List ℕ → Option Meaning
spec_word word = if is_option word then None else result_ok (spec_of word)

-- the spec that the words behind the name of show say: one word
abbrev pub show_words : List (List ℕ) → Option Meaning
show_words (word ∷ []) = spec_word word
show_words words = None

-- the spec whose records the words ask for, where they are those of show
abbrev pub shown_spec : List (List ℕ) → Option Meaning
shown_spec (name ∷ words) = if bytes_eq name (codes "show") then show_words words else None
shown_spec [] = None

-- the place that a word is, if it is one and no option
abbrev pub place_word : List ℕ → Option (List ℕ)
place_word word = if is_option word then None else (if is_place word then Some word else None)

-- the place that the words behind the name of index say: one word
abbrev pub index_words : List (List ℕ) → Option (List ℕ)
index_words (word ∷ []) = place_word word
index_words words = None
