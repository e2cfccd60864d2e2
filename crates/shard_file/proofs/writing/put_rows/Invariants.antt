use Rattle.std.proofs.Common.{◌≡◌, ◌++◌, ℕ, ◌<◌, take}
use Rattle.std.specs.Prelude.{slice_index_or}
use Rattle.std.specs.List.{flat_map}
use Rattle.shard_file.specs.Rows.{Row}
use Rattle.shard_file.specs.Writing.{bytes_under, IsReadableUnder}
use Rattle.shard_file.proofs.writing.put_rows.Given as goal

abbrev pub invariant-loop-file : goal.invariant-loop-file
invariant-loop-file l = record {
  written : l.out.items ≡ l.initial.out.items ++ flat_map (bytes_under l.conda) (take l.file-index l.files);
  rows : (k : ℕ) (d : Row) → k < l.file-index → IsReadableUnder l.conda (slice_index_or l.files k d);
}
