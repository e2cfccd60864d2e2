-- What indexing a place does to a store that tells its files, and why it may not (docs/FORMATS.md, "Indexing").
use Rattle.std.specs.Prelude.{◌≡◌, ℕ, ◌+◌, ◌<◌, ◌≤◌, List, length, map, count_by, Option, Some, None, Result, Ok, Err, MatchResult, IfSome}
use Rattle.std.specs.List.{All}
use Rattle.std.specs.FinMap as finite
use Rattle.channel_store.specs.Store.{Files}
use Rattle.shard_file.specs.Rows.{Row}
use Rattle.channel_indexer.specs.declared.fault.IndexFault.{IndexFault}
use Rattle.channel_indexer.specs.declared.fault.IndexFault.TheVariants as fault
use Rattle.channel_indexer.specs.declared.fault.Large.TheVariants as large
use Rattle.channel_indexer.specs.declared.index.Summary.{Summary}
use Rattle.channel_indexer.specs.declared.plan.Plan.{Plan}
use Rattle.channel_indexer.specs.Input.{fault_of, rows_from}
use Rattle.channel_indexer.specs.Store.{stored_fault}
use Rattle.channel_indexer.specs.Groups.{Group, InOrder, AreGroupsOf}
use Rattle.channel_indexer.specs.Puts.{with_puts, StopsWithin, stands_in, AreApart}
use Rattle.channel_store.specs.Names.{input_name}
use Rattle.channel_indexer.specs.Shards.{shard_put, listed_of, index_puts, IsFit, HasFitIndex}
use Rattle.channel_indexer.specs.Prepared.{HaveReadings, ArePrepared, AreTooLong}

-- the most bytes of `repodata.json`
abbrev pub most_input : ℕ
most_input = 536870912

-- these bytes say these records, and these are the groups of the records in the order of their file names
pub record SaysGroups (bytes : List ℕ) (stood : List Row) (groups : List Group) : Type 0 where
  pub read : rows_from bytes ≡ Ok stood
  pub rows : List Row
  pub in_order : InOrder stood rows
  pub grouped : AreGroupsOf rows groups

-- why some bytes can't be indexed: what they say has a fault, or something that they make is too long
pub data BytesFault (place bytes : List ℕ) (f : IndexFault) : Type 0 where
  says : rows_from bytes ≡ Err f → BytesFault place bytes f
  makes : (stood : List Row) (groups : List Group) → SaysGroups bytes stood groups → AreTooLong place groups f → BytesFault place bytes f

-- why a place can't be indexed, by the file that stands there
pub data PlaceFault (place : List ℕ) (told : Files) : IndexFault → Type 0 where
  no_file : finite.get told (input_name place) ≡ None → PlaceFault place told fault.NoFile
  too_long : (bytes : List ℕ) → finite.get told (input_name place) ≡ Some bytes → most_input < length bytes
      → PlaceFault place told (fault.TooLong large.Input)
  of_bytes : {f : IndexFault} (bytes : List ℕ) → finite.get told (input_name place) ≡ Some bytes → length bytes ≤ most_input
      → BytesFault place bytes f → PlaceFault place told f

-- the file of a place says these records and groups, and nothing that they make is too long
pub record IsIndexable (place : List ℕ) (told : Files) (stood : List Row) (groups : List Group) : Type 0 where
  pub bytes : List ℕ
  pub stands : finite.get told (input_name place) ≡ Some bytes
  pub short : length bytes ≤ most_input
  pub says : SaysGroups bytes stood groups
  pub fit : All IsFit groups
  pub index_fit : HasFitIndex place (map listed_of groups)
  pub readings : HaveReadings place groups

-- the shards of some groups that stand already, of so many
abbrev pub count_standing : List ℕ → Files → List Group → ℕ
count_standing place told groups = count_by (stands_in told) (map (shard_put place) groups)

-- a place was indexed: the puts are in place, and the summary counts names and records, and the shards that stood and
-- the others
pub record IsIndexed (place : List ℕ) (told : Files) (new : Option Files) (summary : Summary) : Type 0 where
  pub stood : List Row
  pub groups : List Group
  pub indexable : IsIndexable place told stood groups
  pub files : new ≡ with_puts (index_puts place groups) (Some told)
  pub names : summary.names ≡ length groups
  pub records : summary.files ≡ length stood
  pub kept : AreApart (map (shard_put place) groups) → summary.kept ≡ count_standing place told groups
  pub written : summary.kept + summary.written ≡ summary.names

-- this fault was answered, or the store failed or memory ran out
abbrev pub AnswersFault : IndexFault → Result Summary IndexFault → Type 0
AnswersFault f result = MatchResult result (λ summary. ⊥) (λ e. IfSome (stored_fault e) (λ g. g ≡ f))

-- where indexing stopped: nothing was changed, or some of the puts were made, from the first one on
pub data StopsAt (place : List ℕ) (told : Files) (new : Option Files) : Type 0 where
  before : new ≡ Some told → StopsAt place told new
  within : (stood : List Row) (groups : List Group) → IsIndexable place told stood groups
      → StopsWithin (index_puts place groups) (Some told) new → StopsAt place told new

-- ---- the plan

-- a plan is that of these records and groups
pub record IsPlan (place : List ℕ) (stood : List Row) (groups : List Group) (plan : Plan) : Type 0 where
  pub prepared : ArePrepared place groups plan.prepared
  pub names : plan.names ≡ length groups
  pub files : plan.files ≡ length stood

-- a plan is that of what some bytes say
pub record IsPlanOf (place bytes : List ℕ) (made : Plan) : Type 0 where
  pub stood : List Row
  pub groups : List Group
  pub says : SaysGroups bytes stood groups
  pub plan : IsPlan place stood groups made

-- what the planning gave
abbrev pub Plans : List ℕ → List ℕ → Result Plan IndexFault → Type 0
Plans place bytes result = MatchResult result (IsPlanOf place bytes) (λ e. IfSome (fault_of e) (BytesFault place bytes))

-- ---- the input

-- what the reading of the input gave, where the files are told
abbrev pub GivesInput : List ℕ → Files → Result (Rattle.std.specs.declared.vec.Vec.Vec ℕ Rattle.std.specs.declared.alloc.Global.Global) IndexFault → Type 0
GivesInput place told result = MatchResult result
    (λ bytes. (finite.get told (input_name place) ≡ Some bytes.items) × (length bytes.items ≤ most_input))
    (λ e. IfSome (stored_fault e) (PlaceFault place told))
