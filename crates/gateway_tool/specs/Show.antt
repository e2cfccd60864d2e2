-- What show answers: the rows that were written, the fault of a bad file, and the status that an input leads to.
use Rattle.std.specs.Prelude.{◌≡◌, ◌≢◌, ℕ, ◌<◌, ◌≤◌, List, [], ◌∷◌, length, Option, IfSome}
use Rattle.std.specs.Io.KnownBytes.{append_known}
use Rattle.link_io.specs.Transfer.{AppendsPart}
use Rattle.mp_codec.specs.declared.fault.FormatFault.{FormatFault}
use Rattle.mp_codec.specs.Fault.{IsFirstFault}
use Rattle.match_spec.specs.Parts.{Meaning}
use Rattle.shard_file.specs.Rows.{Row, ShardOf, ShardFault}
use Rattle.gateway_tool.specs.declared.note.Note.{Note}
use Rattle.gateway_tool.specs.declared.note.Note.TheVariants.{Nothing, Shard}
use Rattle.gateway_words.specs.Limits.{most_served_bytes}
use Rattle.gateway_tool.specs.Status.{status_ok, status_read_fault, status_write_fault, status_out_of_memory, status_too_much_input, status_bad_file, IsOneOf, apart_from_input}
use Rattle.gateway_tool.specs.Texts.{show_text}

-- these bytes are all that a source had left, where it told them
abbrev pub IsWhole : Option (List ℕ) → List ℕ → Type 0
IsWhole left bytes = IfSome left (λ all. bytes ≡ all)

-- the whole input is a shard, and what was written is right for the text of its rows that the spec matches
pub record Shows (left : Option (List ℕ)) (IsWritten : List ℕ → Type 0) (spec : Meaning) : Type 0 where
  pub bytes : List ℕ
  pub rows : List Row
  pub whole : IsWhole left bytes
  pub shard : ShardOf bytes rows
  pub written : IsWritten (show_text spec rows)

-- the whole input is no shard, and the note has the first fault that stands in it
pub record IsRefused (left : Option (List ℕ)) (note : Note) : Type 0 where
  pub bytes : List ℕ
  pub fault : FormatFault
  pub whole : IsWhole left bytes
  pub first : IsFirstFault (ShardFault bytes) fault
  pub noted : note ≡ Shard fault

-- the input has more bytes than a shard may have
abbrev pub IsTooLong : List ℕ → Type 0
IsTooLong input = most_served_bytes < length input

-- the status that an input leads to, where nothing comes from apart
pub record LeadsTo (input : List ℕ) (status : ℕ) : Type 0 where
  -- an input that is too long is refused for that
  pub too_long : IsTooLong input → IsOneOf (status_too_much_input ∷ apart_from_input) status
  -- a shard is shown, unless a write fails
  pub shard : (rows : List Row) → length input ≤ most_served_bytes → ShardOf input rows
      → IsOneOf (status_ok ∷ status_write_fault ∷ apart_from_input) status
  -- an input in which a fault stands is a bad file
  pub no_shard : (f : FormatFault) → length input ≤ most_served_bytes → ShardFault input f
      → IsOneOf (status_bad_file ∷ apart_from_input) status

-- what show answered by this spec of what its source had left, and what became of the output
pub record ShowAnswers (spec : Meaning) (left before now : Option (List ℕ)) (status : ℕ) (said : Note) : Type 0 where
  pub answered : status ≡ status_ok → Shows left (λ text. now ≡ append_known before text) spec
  pub part : status ≡ status_write_fault → Shows left (AppendsPart before now) spec
  pub silent : status ≢ status_ok → status ≢ status_write_fault → now ≡ before
  pub bad_file : status ≡ status_bad_file → IsRefused left said
  pub noted : status ≢ status_bad_file → said ≡ Nothing
  pub too_much : status ≡ status_too_much_input → IfSome left IsTooLong
  pub leads : IfSome left (λ bytes. LeadsTo bytes status)
  pub statuses : IsOneOf (status_ok ∷ status_read_fault ∷ status_write_fault ∷ status_out_of_memory ∷ status_too_much_input ∷ status_bad_file ∷ []) status
