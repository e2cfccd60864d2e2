-- Specs in canonical form: a name, and each part as a key with its value in quotes (docs/FORMATS.md, "Specs").
use Rattle.std.specs.Prelude.{ℕ, ◌++◌, ◌==◌, Bool, List, [], ◌∷◌, map, codes, not, Option, Some, None}
use Rattle.std.specs.Fmt.{decimal}
use Rattle.std.specs.List.{join_with_byte, list_all, list_any}
use Rattle.std.specs.Option.{option_map}
use Rattle.hex.specs.Hex.{encode_lower}
use Rattle.gateway_words.specs.Ascii.{comma, equals_sign}
use Rattle.match_spec.specs.Comparison.{Comparison}
use Rattle.match_spec.specs.Comparison as comparison
use Rattle.match_spec.specs.Key.{Key}
use Rattle.match_spec.specs.Key as key
use Rattle.match_spec.specs.Number.{NumberTest}
use Rattle.match_spec.specs.Parts.{Meaning, Parts}
use Rattle.match_spec.specs.Signs.{double_quote, left_bracket, right_bracket}

-- a part of a bracket: its key, and the text of its value
pub record Pair : Type 0 where
  pub named : Key
  pub text : List ℕ

-- the text of a key
abbrev pub key_text : Key → List ℕ
key_text key.version = codes "version"
key_text key.build = codes "build"
key_text key.build_number = codes "build_number"
key_text key.channel = codes "channel"
key_text key.subdir = codes "subdir"
key_text key.md5 = codes "md5"
key_text key.sha256 = codes "sha256"
key_text key.file = codes "fn"

-- the text of a comparison
abbrev pub comparison_text : Comparison → List ℕ
comparison_text comparison.equal = codes "=="
comparison_text comparison.not_equal = codes "!="
comparison_text comparison.less = codes "<"
comparison_text comparison.at_most = codes "<="
comparison_text comparison.greater = codes ">"
comparison_text comparison.at_least = codes ">="

-- the text of a test of build numbers: the comparison, and the number in decimal digits
abbrev pub number_text : NumberTest → List ℕ
number_text wanted = comparison_text wanted.comparison ++ decimal wanted.number

-- the part of a key, where it is there
abbrev pub pair_of : Key → Option (List ℕ) → List Pair
pair_of k None = []
pair_of k (Some text) = record { named = k; text = text } ∷ []

-- the parts that are there, with digests in lower-case digits
abbrev pub pairs_of : Parts → List Pair
pairs_of parts =
    pair_of key.version parts.version
    ++ (pair_of key.build parts.build
    ++ (pair_of key.build_number (option_map number_text parts.build_number)
    ++ (pair_of key.channel parts.channel
    ++ (pair_of key.subdir parts.subdir
    ++ (pair_of key.md5 (option_map encode_lower parts.md5)
    ++ (pair_of key.sha256 (option_map encode_lower parts.sha256) ++ pair_of key.file parts.file))))))

-- the text of a part: its key, `=`, and its value between double quotes
abbrev pub pair_text : Pair → List ℕ
pair_text pair = key_text pair.named ++ (equals_sign ∷ double_quote ∷ (pair.text ++ double_quote ∷ []))

-- the canonical form of a spec: the name, and in brackets its parts with `,` between them
abbrev pub canonical : Meaning → List ℕ
canonical spec =
    spec.name ++ (left_bracket ∷ (join_with_byte comma (map pair_text (pairs_of spec.parts)) ++ right_bracket ∷ []))

-- whether a text has no double quote
abbrev pub is_unquoted : List ℕ → Bool
is_unquoted text = not (list_any (λ b. b == double_quote) text)

-- whether no value of a spec has a double quote, so that the canonical form spells it
abbrev pub has_canonical : Meaning → Bool
has_canonical spec = list_all (λ (pair : Pair). is_unquoted pair.text) (pairs_of spec.parts)
