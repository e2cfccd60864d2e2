use Rattle.shard_file.proofs.reading.Found.read_value.Given as goal

abbrev pub ghost-files : goal.ghost-files
ghost-files g a = g.bytes
