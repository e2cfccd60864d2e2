-- The lines of an input, and how each of them ends: with the lines of its answer, with that of its refusal, or at a bad file.
use Rattle.std.specs.Prelude.{◌≡◌, ℕ, ◌+◌, Bool, true, false, ◌||◌, List, [], ◌∷◌, ◌++◌, Option, Some, None, Result, Ok, Err}
use Rattle.std.specs.Str.Lines as text
use Rattle.channel_store.specs.Store.{Files}
use Rattle.match_spec.specs.Reading.{spec_fault_number}
use Rattle.closure_request.specs.Request.{Asking}
use Rattle.closure_request.specs.declared.refusal.RequestRefusal.{RequestRefusal}
use Rattle.closure_request.specs.declared.refusal.RequestRefusal.TheVariants as refusal
use Rattle.closure_plan.specs.Closure.{Found}
use Rattle.answer_text.specs.Answers.{answer_text, refused_line}
use Rattle.store_closure.specs.declared.stop.BadFile.{BadFile}
use Rattle.store_closure.specs.Asked.{Asked, request_in}
use Rattle.store_closure.specs.Runs.{IsAnswer, StopsAt}

-- the lines of an input: each ends at a newline, and a carriage return before that is dropped; what stands behind the last
-- newline is a line where it isn't empty
abbrev pub input_lines : List ℕ → List (List ℕ)
input_lines bytes = text.lines bytes

-- the numbers by which a refusal is printed: that of the spec, and that of its fault
abbrev pub numbers_of : RequestRefusal → Option (ℕ × ℕ)
numbers_of (refusal.Spec number fault) = Some (number, spec_fault_number fault)
numbers_of refusal.NotText = Some (0, 9)
numbers_of refusal.Memory = None

-- how lines end: with a text, and whether one of them was refused, or at a bad file
abbrev pub End : Type 0
End = Result (List ℕ × Bool) BadFile

-- how the line of a number ends, over the files of a store
pub data LineEnd (told : Files) (a : Asked) (number : ℕ) (line : List ℕ) : End → Type 0 where
  line_refused : (e : RequestRefusal) (spec fault : ℕ) → request_in a line ≡ Err e → numbers_of e ≡ Some (spec, fault)
      → LineEnd told a number line (Ok (refused_line number spec fault, true))
  line_answered : (r : Asking) (rows : List Found) → request_in a line ≡ Ok r → IsAnswer told r rows
      → LineEnd told a number line (Ok (answer_text number rows, false))
  line_stopped : (r : Asking) (bad : BadFile) → request_in a line ≡ Ok r → StopsAt told r bad
      → LineEnd told a number line (Err bad)

-- a text, and the end of what comes behind it
abbrev pub behind : List ℕ → Bool → End → End
behind text refused (Ok rest) = Ok (text ++ rest.0, refused || rest.1)
behind text refused (Err bad) = Err bad

-- how lines end, which are numbered from here on: at the first bad file, or else with the texts of all
pub data LinesEnd (told : Files) (a : Asked) : ℕ → List (List ℕ) → End → Type 0 where
  no_line : (number : ℕ) → LinesEnd told a number [] (Ok ([], false))
  one_line : (number : ℕ) (line : List ℕ) (rest : List (List ℕ)) (text : List ℕ) (refused : Bool) (end : End) → LineEnd told a number line (Ok (text, refused))
      → LinesEnd told a (number + 1) rest end → LinesEnd told a number (line ∷ rest) (behind text refused end)
  first_stop : (number : ℕ) (line : List ℕ) (rest : List (List ℕ)) (bad : BadFile) → LineEnd told a number line (Err bad)
      → LinesEnd told a number (line ∷ rest) (Err bad)
