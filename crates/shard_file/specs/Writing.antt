-- The bytes of a shard that is written, and which rows can be (docs/FORMATS.md, "Shards").
use Rattle.std.specs.Prelude.{◌≡◌, ℕ, ◌<◌, ◌^◌, Bool, true, false, not, List, [], ◌∷◌, ◌++◌, length, Some, codes, if◌then◌else◌}
use Rattle.std.specs.declared.cmp.Ordering.{Ordering}
use Rattle.std.specs.Ordering.{nat_cmp, bool_cmp, on, then_cmp}
use Rattle.std.specs.Cmp.Lexicographic.{slice_cmp}
use Rattle.std.specs.List.{All, filter, flat_map}
use Rattle.std.specs.List.Sorted.{IsStrictlySortedBy}
use Rattle.mp_codec.specs.Writing.{str_bytes, array_head, map_head, pair_bytes, known_map_bytes}
use Rattle.conda_record.specs.Writing.{record_bytes, IsShort, IsWritable, AreText, AreFields, IsReadAgain}
use Rattle.shard_file.specs.Rows.{Row, shard_keys}

-- ---- the bytes

-- a row stands in packages.conda, or else in packages
abbrev pub stands_in : Bool → Row → Bool
stands_in true r = r.conda
stands_in false r = not r.conda

-- the rows of one of the two maps
abbrev pub rows_under : Bool → List Row → List Row
rows_under conda rows = filter (stands_in conda) rows

-- a file name and its record
unfoldable pub file_bytes : Row → List ℕ
file_bytes r = str_bytes r.file ++ record_bytes r.fields

-- a map of files
unfoldable pub files_bytes : List Row → List ℕ
files_bytes rows = map_head (length rows) ++ flat_map file_bytes rows

-- a map of the two maps of files and of an empty list of removed files
unfoldable pub shard_bytes : List Row → List ℕ
shard_bytes rows =
    known_map_bytes shard_keys (Some (files_bytes (rows_under false rows)) ∷ Some (files_bytes (rows_under true rows)) ∷ Some (array_head 0) ∷ [])

-- ---- which rows can be written, and what is read of them

-- rows are in the order of their file names, and at one name that of packages is first
abbrev pub row_cmp : Row → Row → Ordering
row_cmp = then_cmp (on (λ r. r.file) (slice_cmp nat_cmp)) (on (λ r. r.conda) bool_cmp)

-- the lengths of a file name and of all that its record has can be said
pub record IsWritableRow (r : Row) : Type 0 where
  pub file_short : IsShort r.file
  pub record_writable : IsWritable r.fields

-- the rows ascend, each before all that follow it, and their number and all lengths can be said
pub record AreWritable (rows : List Row) : Type 0 where
  pub ascending : IsStrictlySortedBy row_cmp rows
  pub few : length rows < 2 ^ 32
  pub each : All IsWritableRow rows

-- a file name that is text, and a record that is read again where it is written
pub record IsReadableRow (r : Row) : Type 0 where
  pub file_text : AreText r.file
  pub record_read : IsReadAgain r.fields

-- what a row of a shard is: its file name is text, and its fields are those of a record
pub record IsRow (r : Row) : Type 0 where
  pub file_text : AreText r.file
  pub fields : AreFields r.fields

-- ---- a shard in parts, as it is written

-- the key of one of the two maps and the rows in it
unfoldable pub files_pair : List ℕ → Bool → List Row → List ℕ
files_pair key conda rows = pair_bytes key (Some (files_bytes (rows_under conda rows)))

-- the key of the removed files and none of them
unfoldable pub removed_pair : List ℕ
removed_pair = pair_bytes (codes "removed") (Some (array_head 0))

-- the bytes of a row in this one of the two maps, if it stands there
abbrev pub bytes_under : Bool → Row → List ℕ
bytes_under conda r = if stands_in conda r then file_bytes r else []

-- a row that can be read again, if it stands in this one of the two maps
abbrev pub IsReadableUnder : Bool → Row → Type 0
IsReadableUnder conda r = stands_in conda r ≡ true → IsReadableRow r
