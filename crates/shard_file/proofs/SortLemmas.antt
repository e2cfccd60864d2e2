-- The order of rows by file name.
use Rattle.std.specs.Cmp.{IsStrictWeakOrder}
use Rattle.std.proofs.lemmas.Cmp.{nat_list_cmp_total}
use Rattle.std.proofs.lemmas.List.Sorted.{ranks_by}
use Rattle.shard_file.specs.Rows.{Row, file_lt}

-- file names are in one order
pub file_order : IsStrictWeakOrder file_lt
file_order = ranks_by nat_list_cmp_total (λ (r : Row). r.file)
