-- The lines of answers: of a request that was answered, and of one that was refused.
use Rattle.std.specs.Prelude.{ℕ, List, [], ◌∷◌, ◌++◌, length, decimal, codes}
use Rattle.std.specs.List.{flat_map}
use Rattle.gateway_words.specs.Ascii.{newline, slash}
use Rattle.closure_plan.specs.Closure.{Found}
use Rattle.answer_text.specs.Text.{shown, record_line}

-- the line of a row of an answer: the channel, the subdir and the line of its record, with `/` between them
abbrev pub found_line : Found → List ℕ
found_line f = (shown f.channel ++ slash ∷ []) ++ ((shown f.subdir ++ slash ∷ []) ++ record_line f.row.file f.row.fields)

-- the first line of the answer to the request of a number, which has so many rows
abbrev pub ok_line : ℕ → ℕ → List ℕ
ok_line number rows = (codes "request " ++ decimal number) ++ ((codes " ok " ++ decimal rows) ++ newline ∷ [])

-- the lines of an answer
abbrev pub answer_text : ℕ → List Found → List ℕ
answer_text number rows = ok_line number (length rows) ++ flat_map found_line rows

-- the line of a request that was refused, by the number of a spec and that of a fault
abbrev pub refused_line : ℕ → ℕ → ℕ → List ℕ
refused_line number spec fault =
    (codes "request " ++ decimal number) ++ ((codes " refused " ++ decimal spec) ++ ((codes " " ++ decimal fault) ++ newline ∷ []))
