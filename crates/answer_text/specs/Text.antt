-- How texts are shown, and the line of a record.
use Rattle.std.specs.Prelude.{ℕ, List, [], ◌∷◌, ◌++◌, map, decimal, if◌then◌else◌}
use Rattle.std.specs.Char.{is_ascii_control}
use Rattle.std.specs.List.{join_with_byte}
use Rattle.gateway_words.specs.Ascii.{newline, space, question_mark}
use Rattle.conda_record.specs.Record.{Fields}

-- a byte as it is shown; in a text the bytes of control characters are those below 0x20, and 0x7f
abbrev pub shown_byte : ℕ → ℕ
shown_byte b = if is_ascii_control b then question_mark else b

-- a text as it is shown, with `?` for each control character
abbrev pub shown : List ℕ → List ℕ
shown text = map shown_byte text

-- the line of the record of a file: the file, the version, the build and the build number
abbrev pub record_line : List ℕ → Fields → List ℕ
record_line file fields =
    join_with_byte space (shown file ∷ shown fields.version ∷ shown fields.build ∷ decimal fields.build_number ∷ []) ++ newline ∷ []
