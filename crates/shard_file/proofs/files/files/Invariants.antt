use Rattle.shard_file.proofs.files.files.Given as goal

abbrev pub ghost-rows_of_files : goal.ghost-rows_of_files
ghost-rows_of_files g a = g.bytes
