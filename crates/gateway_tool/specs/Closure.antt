-- What closure answers: the texts of the answers, the bad file, and the status that an input and a store lead to.
use Rattle.std.specs.Prelude.{◌≡◌, ◌≢◌, ℕ, ◌||◌, nat_lt, Bool, true, false, List, [], ◌∷◌, length, Option, IfSome, Ok, Err, if◌then◌else◌}
use Rattle.std.specs.Io.KnownBytes.{append_known, IsAtEnd}
use Rattle.link_io.specs.Transfer.{AppendsPart}
use Rattle.channel_store.specs.Store.{Files}
use Rattle.store_closure.specs.Asked.{Asked}
use Rattle.store_closure.specs.Lines.{End, LinesEnd, input_lines}
use Rattle.store_closure.specs.declared.stop.BadFile.{BadFile}
use Rattle.gateway_tool.specs.declared.note.Note.{Note}
use Rattle.gateway_tool.specs.declared.note.Note.TheVariants as note
use Rattle.gateway_tool.specs.Status.{status_ok, status_not_answered, status_read_fault, status_write_fault, status_out_of_memory, status_too_much_input, status_store_fault, status_bad_file, IsOneOf}
use Rattle.gateway_tool.specs.Show.{IsWhole}
use Rattle.gateway_tool.specs.Outside.{Outside}

-- the most bytes of an input of requests
abbrev pub most_input_bytes : ℕ
most_input_bytes = 1048576

-- the most lines of it
abbrev pub most_input_lines : ℕ
most_input_lines = 4096

-- whether an input has more bytes or more lines than it may have
abbrev pub is_too_much : List ℕ → Bool
is_too_much input = nat_lt most_input_bytes (length input) || nat_lt most_input_lines (length (input_lines input))

-- how the lines of an input end over the files of a store, where it tells them
abbrev pub EndsSo : Asked → Option Files → List ℕ → End → Type 0
EndsSo asked files input end = IfSome files (λ told. LinesEnd told asked 1 (input_lines input) end)

-- the status of answers, by whether a line was refused
abbrev pub answered_status : Bool → ℕ
answered_status refused = if refused then status_not_answered else status_ok

-- all lines were answered or refused, and what was written is right for their text
pub record Closes (asked : Asked) (before : Outside) (IsWritten : List ℕ → Bool → Type 0) : Type 0 where
  pub input : List ℕ
  pub text : List ℕ
  pub refused : Bool
  pub whole : IsWhole before.left input
  pub ends : EndsSo asked before.files input (Ok (text, refused))
  pub written : IsWritten text refused

-- a line needs a bad file, and the note names the first one
pub record MeetsBadFile (asked : Asked) (before : Outside) (said : Note) : Type 0 where
  pub input : List ℕ
  pub bad : BadFile
  pub whole : IsWhole before.left input
  pub ends : EndsSo asked before.files input (Err bad)
  pub noted : said ≡ note.File bad.name bad.why

-- the statuses of closure that have other causes than the lines and the files: a failed read, want of memory, a failed store
abbrev pub apart_from_lines : List ℕ
apart_from_lines = status_read_fault ∷ status_out_of_memory ∷ status_store_fault ∷ []

-- the status and the note to which lines lead that end so, where nothing comes from apart
abbrev pub EndLeadsTo : End → ℕ → Note → Type 0
EndLeadsTo (Ok (text, refused)) status said = IsOneOf (answered_status refused ∷ status_write_fault ∷ apart_from_lines) status
EndLeadsTo (Err bad) status said = IsOneOf (status_bad_file ∷ apart_from_lines) status × (status ≡ status_bad_file → said ≡ note.File bad.name bad.why)

-- the status to which an input leads, where nothing comes from apart
pub record InputLeadsTo (asked : Asked) (files : Option Files) (input : List ℕ) (status : ℕ) (said : Note) : Type 0 where
  pub too_much : is_too_much input ≡ true → IsOneOf (status_too_much_input ∷ apart_from_lines) status
  pub ends : is_too_much input ≡ false → IfSome files (λ told. (end : End) → LinesEnd told asked 1 (input_lines input) end → EndLeadsTo end status said)

-- what closure answered, and what became of what is outside
pub record ClosureAnswers (asked : Asked) (before now : Outside) (status : ℕ) (said : Note) : Type 0 where
  -- the text
  pub answered : IsOneOf (status_ok ∷ status_not_answered ∷ []) status
      → Closes asked before (λ text refused. (now.written ≡ append_known before.written text) × (status ≡ answered_status refused))
  pub part : status ≡ status_write_fault → Closes asked before (λ text refused. AppendsPart before.written now.written text)
  pub silent : status ≢ status_ok → status ≢ status_not_answered → status ≢ status_write_fault → now.written ≡ before.written
  -- a bad file
  pub bad_file : status ≡ status_bad_file → MeetsBadFile asked before said
  pub noted : status ≢ status_bad_file → said ≡ note.Nothing
  -- the input
  pub too_much : status ≡ status_too_much_input → IfSome before.left (λ input. is_too_much input ≡ true)
  pub whole : IsOneOf (status_ok ∷ status_not_answered ∷ []) status → IsAtEnd now.left
  pub leads : IfSome before.left (λ input. InputLeadsTo asked before.files input status said)
  -- no file is changed
  pub files : now.files ≡ before.files
  pub statuses : IsOneOf (status_ok ∷ status_not_answered ∷ status_read_fault ∷ status_write_fault ∷ status_out_of_memory ∷ status_too_much_input ∷ status_store_fault ∷ status_bad_file ∷ []) status
