-- What index answers: what became of the store's files, what was written, and the note on a bad file.
use Rattle.std.specs.Prelude.{◌≡◌, ◌≢◌, ℕ, List, [], ◌∷◌, ◌++◌, Option, Some, IfSome, decimal, codes}
use Rattle.std.specs.Io.KnownBytes.{append_known}
use Rattle.gateway_words.specs.Ascii.{newline}
use Rattle.channel_store.specs.Store.{Files}
use Rattle.shard_file.specs.Rows.{Row}
use Rattle.channel_indexer.specs.declared.fault.IndexFault.{IndexFault}
use Rattle.channel_indexer.specs.declared.index.Summary.{Summary}
use Rattle.channel_indexer.specs.Store.{stored_fault}
use Rattle.channel_indexer.specs.Groups.{Group}
use Rattle.channel_indexer.specs.Indexing.{IsIndexed, IsIndexable, PlaceFault, StopsAt}
use Rattle.link_io.specs.Transfer.{AppendsPart}
use Rattle.gateway_tool.specs.declared.note.Note.{Note}
use Rattle.gateway_tool.specs.declared.note.Note.TheVariants as note
use Rattle.gateway_tool.specs.Status.{status_ok, status_write_fault, status_out_of_memory, status_store_fault, status_bad_file, IsOneOf}

-- the line of a summary
abbrev pub summary_text : Summary → List ℕ
summary_text s =
    (codes "names " ++ decimal s.names) ++ ((codes " files " ++ decimal s.files) ++ ((codes " written " ++ decimal s.written) ++ ((codes " kept " ++ decimal s.kept) ++ newline ∷ [])))

-- a place was indexed, where the store tells its files, and what was written is right for the line of the summary
pub record Indexes (place : List ℕ) (old new : Option Files) (IsWritten : List ℕ → Type 0) : Type 0 where
  pub summary : Summary
  pub indexed : IfSome old (λ told. IsIndexed place told new summary)
  pub written : IsWritten (summary_text summary)

-- a place can't be indexed by the file that stands there, where the store tells its files, and the note says why
pub record IsBadPlace (place : List ℕ) (old : Option Files) (said : Note) : Type 0 where
  pub fault : IndexFault
  pub stored : stored_fault fault ≡ Some fault
  pub stands : IfSome old (λ told. PlaceFault place told fault)
  pub noted : said ≡ note.Indexing fault

-- the statuses of index that have other causes than the file of the place: want of memory, a failed store
abbrev pub apart_from_place : List ℕ
apart_from_place = status_out_of_memory ∷ status_store_fault ∷ []

-- the status and the note that a place leads to, where nothing comes from apart
pub record PlaceLeadsTo (place : List ℕ) (told : Files) (status : ℕ) (said : Note) : Type 0 where
  -- a place with nothing wrong is indexed, and its line is written, unless the write fails
  pub indexable : (stood : List Row) (groups : List Group) → IsIndexable place told stood groups
      → IsOneOf (status_ok ∷ status_write_fault ∷ apart_from_place) status
  -- a place in which a fault stands is a bad file, and the note has that fault
  pub faulty : (f : IndexFault) → PlaceFault place told f → IsOneOf (status_bad_file ∷ apart_from_place) status
  pub says : (f : IndexFault) → PlaceFault place told f → status ≡ status_bad_file → said ≡ note.Indexing f

-- what index answered, and what became of the store's files and of the output
pub record IndexAnswers (place : List ℕ) (old new : Option Files) (before now : Option (List ℕ)) (status : ℕ) (said : Note) : Type 0 where
  -- the files and the line
  pub answered : status ≡ status_ok → Indexes place old new (λ text. now ≡ append_known before text)
  pub part : status ≡ status_write_fault → Indexes place old new (AppendsPart before now)
  pub silent : status ≢ status_ok → status ≢ status_write_fault → now ≡ before
  -- whatever the status is, some puts were made, from the first one on, and nothing else changed
  pub stop : IfSome old (λ told. StopsAt place told new)
  -- a bad file
  pub bad_file : status ≡ status_bad_file → IsBadPlace place old said
  pub noted : status ≢ status_bad_file → said ≡ note.Nothing
  pub leads : IfSome old (λ told. PlaceLeadsTo place told status said)
  pub statuses : IsOneOf (status_ok ∷ status_write_fault ∷ status_out_of_memory ∷ status_store_fault ∷ status_bad_file ∷ []) status
