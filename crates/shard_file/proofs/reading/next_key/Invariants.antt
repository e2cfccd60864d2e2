use Rattle.shard_file.proofs.reading.next_key.Given as goal

abbrev pub ghost-has : goal.ghost-has
ghost-has g a = g.bytes
