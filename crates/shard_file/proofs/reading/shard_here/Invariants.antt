use Rattle.shard_file.proofs.reading.shard_here.Given as goal

abbrev pub ghost-pairs_of_shard : goal.ghost-pairs_of_shard
ghost-pairs_of_shard g a = g.bytes
