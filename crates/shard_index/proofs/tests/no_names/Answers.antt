use Rattle.std.proofs.Common.{arith, codes}
use Rattle.shard_index.proofs.WrittenLemmas.{none_writable}
use Rattle.shard_index.proofs.tests.no_names.Goals as goal

pub write_index-requires : goal.write_index-requires
write_index-requires c = none_writable (codes "noarch") (omega arith)
