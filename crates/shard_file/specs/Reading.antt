-- Reading a shard from a position, map by map, as functions of the position.
use Rattle.std.specs.Prelude.{ℕ, ◌==◌, Bool, true, false, List, [], ◌∷◌, ◌++◌, Option, Some, None, Result, Ok, if◌then◌else◌, slice_index_or}
use Rattle.std.specs.List.{list_any}
use Rattle.std.specs.Str.{bytes_eq}
use Rattle.gateway_words.specs.Places.{Position}
use Rattle.gateway_words.specs.Reading.{◌>>=◌}
use Rattle.mp_codec.specs.declared.fault.FormatFault.{FormatFault}
use Rattle.mp_codec.specs.Maps.{Read, entries_from, map_from, skipped, unread, known_key_from, known_value_from, known_end_from, all_from}
use Rattle.conda_record.specs.Reading.{record_from}
use Rattle.gateway_words.specs.Sorting.{sorted_by}
use Rattle.shard_file.specs.Rows.{Row, shard_keys, file_lt}
use Rattle.mp_codec.specs.Names.{new_name_from}

-- ---- the files of one map

-- a row with this file name is among them
abbrev pub has_file : List ℕ → List Row → Bool
has_file name rows = list_any (λ r. bytes_eq r.file name) rows

-- a file name that is not among the rows so far
abbrev pub file_key_from : List Row → Position → Read (List ℕ)
file_key_from rows here = new_name_from (λ name. has_file name rows) here

-- the rows with the row of a file name and the record that stands here
unfoldable pub file_value_from : Bool → List Row → List ℕ → Position → Read (List Row)
file_value_from conda rows file here = record_from here >>= λ r. Ok (rows ++ record { file = file; conda = conda; fields = r.0 } ∷ [], r.1)

-- the rows of a map of files
abbrev pub file_end_from : List Row → Position → Read (List Row)
file_end_from rows here = Ok (rows, here)

-- so many files, behind the rows so far
abbrev pub files_after : Bool → ℕ → List Row → Position → Read (List Row)
files_after conda = entries_from file_key_from (file_value_from conda) file_end_from

-- the map of files that must stand here
unfoldable pub files_from : Bool → Position → Read (List Row)
files_from conda here = map_from (λ n there. files_after conda n [] there) here

-- ---- a shard

-- what stands behind the known key at this place: the rows of a map of files, or a value that is skipped
abbrev pub member_from : ℕ → Position → Read (List Row)
member_from i here = if i == 0 then files_from false here else if i == 1 then files_from true here else skipped [] here

-- the rows behind a key, if it is there
abbrev pub rows_at : List (Option (List Row)) → ℕ → List Row
rows_at s i = rows_or_none (slice_index_or s i None)
  where
    rows_or_none : Option (List Row) → List Row
    rows_or_none (Some rows) = rows
    rows_or_none None = []

-- the end of a shard, which has no required key
unfoldable pub shard_end_from : List (Option (List Row)) → Position → Read (List Row)
shard_end_from s here = known_end_from 0 s here >>= λ s. Ok (rows_at s.0 0 ++ rows_at s.0 1, s.1)

-- so many pairs of a shard, behind what was read so far, and its end
abbrev pub pairs_from : ℕ → List (Option (List Row)) → Position → Read (List Row)
pairs_from = entries_from (known_key_from shard_keys) (known_value_from shard_keys member_from) shard_end_from

-- the rows of the shard that stands here, in the order in which they stand
unfoldable pub shard_from : Position → Read (List Row)
shard_from here = map_from (λ n there. pairs_from n (unread shard_keys) there) here

-- the rows of the shard that some bytes are, in the order in which they stand
unfoldable pub rows_from : List ℕ → Result (List Row) FormatFault
rows_from bytes = all_from shard_from bytes

-- what some bytes are as a shard: its rows, ascending by file name and otherwise as they stand, or the first fault
unfoldable pub shard_of : List ℕ → Result (List Row) FormatFault
shard_of bytes = rows_from bytes >>= λ rows. Ok (sorted_by file_lt rows)
