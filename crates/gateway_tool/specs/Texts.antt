-- The printed text of records.
use Rattle.std.specs.Prelude.{ℕ, Bool, List, [], ◌∷◌, ◌++◌, filter, codes}
use Rattle.std.specs.List.{flat_map}
use Rattle.gateway_words.specs.Ascii.{newline, space}
use Rattle.answer_text.specs.Text.{shown, record_line}
use Rattle.match_spec.specs.Parts.{Meaning}
use Rattle.match_spec.specs.Matching.{matches}
use Rattle.shard_file.specs.Rows.{Row}

-- the line of one text of depends
abbrev pub depend_line : List ℕ → List ℕ
depend_line text = space ∷ space ∷ shown text ++ newline ∷ []

-- the lines of a row
abbrev pub row_text : Row → List ℕ
row_text row = record_line row.file row.fields ++ flat_map depend_line row.fields.depends

-- the spec matches the row, in the channel and the subdir that `-` stands for
abbrev pub is_asked : Meaning → Row → Bool
is_asked spec row = matches spec row.fields (codes "-") (codes "-") row.file

-- the lines of the rows that the spec matches, in their order
abbrev pub show_text : Meaning → List Row → List ℕ
show_text spec rows = flat_map row_text (filter (is_asked spec) rows)
