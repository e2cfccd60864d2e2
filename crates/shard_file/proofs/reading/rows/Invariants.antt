use Rattle.shard_file.proofs.reading.rows.Given as goal

abbrev pub ghost-shard_here : goal.ghost-shard_here
ghost-shard_here a = a.cur.now.left
