-- Which bytes are a shard, what its rows are, and what may be wrong with it (CEP 16, "shards").
use Rattle.std.specs.Prelude.{◌≡◌, ℕ, Bool, true, false, List, [], ◌∷◌, ◌++◌, Option, Some, None, map, unwrap_or, codes}
use Rattle.std.specs.Ordering.{is_lt, nat_cmp}
use Rattle.std.specs.Cmp.Lexicographic.{slice_cmp}
use Rattle.std.specs.List.Sorted.{IsSortedBy, IsStableBy}
use Rattle.mp_codec.specs.declared.fault.FormatFault.{FormatFault}
use Rattle.mp_codec.specs.Value.{Value, pairs_of, str_of}
use Rattle.mp_codec.specs.Spelling.{Spells}
use Rattle.mp_codec.specs.Fault.{Faults, no_fault, MapRules, MapFault, BytesFault}
use Rattle.mp_codec.specs.Names.{names_rules}
use Rattle.mp_codec.specs.Keys.{is_one_of, value_at, RepeatedKey}
use Rattle.conda_record.specs.Record.{Fields, fields_of, RecordFault}

-- ---- what a shard says

-- a row of a shard: a file name, whether it stands in packages.conda, and the fields of its record
pub record Row : Type 0 where
  pub file : List ℕ
  pub conda : Bool
  pub fields : Fields

-- the key of the files in the older format of packages
abbrev pub packages_key : List ℕ
packages_key = codes "packages"

-- the key of the files in the newer format of packages
abbrev pub conda_key : List ℕ
conda_key = codes "packages.conda"

-- the keys of a shard that are known
abbrev pub shard_keys : List (List ℕ)
shard_keys = packages_key ∷ conda_key ∷ codes "removed" ∷ []

-- the row of a file name and the value behind it
abbrev pub row_of : Bool → Value × Value → Row
row_of conda p = record { file = unwrap_or (str_of p.0) []; conda = conda; fields = fields_of p.1 }

-- the rows of a map of files, in the order in which they stand there
abbrev pub rows_in : Bool → Option Value → List Row
rows_in conda (Some v) = map (row_of conda) (pairs_of v)
rows_in conda None = []

-- the rows of a shard in the order in which they stand there, those of packages first
abbrev pub rows_of : Value → List Row
rows_of v = rows_in false (value_at packages_key (pairs_of v)) ++ rows_in true (value_at conda_key (pairs_of v))

-- the file name of one row comes before that of another, by bytes
abbrev pub file_lt : Row → Row → Bool
file_lt r s = is_lt (slice_cmp nat_cmp r.file s.file)

-- ---- what may be wrong with a shard

-- files are a map from different texts to records
abbrev pub files_rules : MapRules
files_rules = names_rules RecordFault

-- what may be wrong with a map of files
abbrev pub FilesFault : Faults
FilesFault = MapFault files_rules

-- a shard is a map with no known key twice, and with files behind two of them
abbrev pub shard_rules : MapRules
shard_rules = record {
  key = λ front. RepeatedKey shard_keys front;
  value = λ key here f. (is_one_of (packages_key ∷ conda_key ∷ []) key ≡ true) × FilesFault here f;
  end = λ front. no_fault;
}

-- what may be wrong with some bytes as a shard, which is one map and nothing behind it
abbrev pub ShardFault : List ℕ → FormatFault → Type 0
ShardFault = BytesFault (MapFault shard_rules)

-- the bytes are a shard with these rows: ascending by file name, and otherwise as they stand there
pub record ShardOf (bytes : List ℕ) (rows : List Row) : Type 0 where
  pub value : Value
  pub spelled : Spells value bytes
  pub ascending : IsSortedBy file_lt rows
  pub in_order : IsStableBy file_lt (rows_of value) rows
  pub no_fault : (f : FormatFault) → ShardFault bytes f → ⊥

-- what a shard is to a contract: its bytes, and its rows
pub record Contents : Type 0 where
  pub bytes : List ℕ
  pub rows : List Row
