-- The order of names.
use Rattle.std.specs.Cmp.{IsStrictWeakOrder}
use Rattle.std.proofs.lemmas.Cmp.{nat_list_cmp_total}
use Rattle.std.proofs.lemmas.List.Sorted.{ranks_by}
use Rattle.shard_index.specs.Index.{Listed, name_lt}

-- names are in one order
pub name_order : IsStrictWeakOrder name_lt
name_order = ranks_by nat_list_cmp_total (λ (x : Listed). x.name)
