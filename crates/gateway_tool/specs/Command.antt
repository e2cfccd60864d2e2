-- The commands over files, what each answers of what is outside, and what it leaves as it was.
use Rattle.std.specs.Prelude.{◌≡◌, ◌≢◌, ◌+◌, ℕ, List, [], ◌∷◌, Option, Some, None, IfSome, if◌then◌else◌, codes}
use Rattle.std.specs.Option.{option_map}
use Rattle.std.specs.Str.{bytes_eq}
use Rattle.std.specs.Io.KnownBytes.{IsAtEnd}
use Rattle.gateway_words.specs.Limits.{most_served_bytes}
use Rattle.link_io.specs.Transfer.{LosesAtMost}
use Rattle.match_spec.specs.Parts.{Meaning}
use Rattle.gateway_tool.specs.declared.note.Note.{Note}
use Rattle.gateway_tool.specs.declared.note.Note.TheVariants as note
use Rattle.gateway_tool.specs.Words.{show_words, index_words}
use Rattle.gateway_tool.specs.Status.{status_ok, status_not_answered, status_usage, status_read_fault, status_write_fault, status_out_of_memory, status_too_much_input, status_store_fault, status_bad_file, IsOneOf, HasStatusCause}
use Rattle.gateway_tool.specs.Show.{ShowAnswers}
use Rattle.gateway_tool.specs.Index.{IndexAnswers}
use Rattle.store_closure.specs.Options.{closure_words}
use Rattle.gateway_tool.specs.Closure.{ClosureAnswers}
use Rattle.gateway_tool.specs.Outside.{Outside}
use Rattle.store_closure.specs.Asked.{Asked}

-- what words ask for: the records of a shard that a spec matches, that a place be indexed, or the answers to requests
pub data Task : Type 0 where
  Show : Meaning → Task
  Index : List ℕ → Task
  Closure : Asked → Task

-- what the words ask for, if they are those of a command: its name and its own words behind it
abbrev pub command_of : List (List ℕ) → Option Task
command_of [] = None
command_of (name ∷ words) =
    if bytes_eq name (codes "show") then option_map Show (show_words words)
    else if bytes_eq name (codes "index") then option_map Index (index_words words)
    else if bytes_eq name (codes "closure") then option_map Closure (closure_words words)
    else None

-- what show does: it answers by what its source had left, which it read to its end where the status is 0
pub record DoesShow (spec : Meaning) (before now : Outside) (status : ℕ) (said : Note) : Type 0 where
  pub answers : ShowAnswers spec before.left before.written now.written status said
  pub whole : status ≡ status_ok → IsAtEnd now.left

-- what a command answers, and does to what is outside
abbrev pub Does : Task → Outside → Outside → ℕ → Note → Type 0
Does (Show spec) before now status said = DoesShow spec before now status said
Does (Index place) before now status said = IndexAnswers place before.files now.files before.written now.written status said
Does (Closure asked) before now status said = ClosureAnswers asked before now status said

-- what words lead to: the answer of the command that they are, or that they are none, and each status with its cause
pub record FilesAnswers (words : List (List ℕ)) (before now : Outside) (status : ℕ) (said : Note) : Type 0 where
  -- the words: where they are wrong, and memory lasts, the status is that of wrong words
  pub usage : status ≡ status_usage → command_of words ≡ None
  pub wrong_words : command_of words ≡ None → IsOneOf (status_usage ∷ status_out_of_memory ∷ []) status
  -- the command
  pub does : IfSome (command_of words) (λ asked. Does asked before now status said)
  pub noted : status ≢ status_bad_file → said ≡ note.Nothing
  -- the causes
  pub read_fault : HasStatusCause status_read_fault before.read_faults now.read_faults status
  pub write_fault : HasStatusCause status_write_fault before.write_faults now.write_faults status
  pub store_fault : HasStatusCause status_store_fault before.store_faults now.store_faults status
  -- the input is read to its limit and one byte at most
  pub stops : LosesAtMost (most_served_bytes + 1) before.left now.left
  pub statuses : IsOneOf (status_ok ∷ status_not_answered ∷ status_usage ∷ status_read_fault ∷ status_write_fault ∷ status_out_of_memory ∷ status_too_much_input ∷ status_store_fault ∷ status_bad_file ∷ []) status

-- what the words leave as it was: wrong words all, show the store, and index the input; closure tells the store's files alone
abbrev pub LeavesAlone : {I O S : Type 0} → Option Task → I → I → O → O → S → S → Type 0
LeavesAlone None input_before input_now out_before out_now store_before store_now =
    (input_now ≡ input_before) × (out_now ≡ out_before) × (store_now ≡ store_before)
LeavesAlone (Some (Show spec)) input_before input_now out_before out_now store_before store_now = store_now ≡ store_before
LeavesAlone (Some (Index place)) input_before input_now out_before out_now store_before store_now = input_now ≡ input_before
LeavesAlone (Some (Closure asked)) input_before input_now out_before out_now store_before store_now = Unit
