use Rattle.mp_codec.proofs.AppendLemmas.{on_ok}
use Rattle.shard_file.proofs.WrittenLemmas.{written_shard}
use Rattle.shard_file.proofs.writing.write_shard.Goals as goal

pub returns-clause-read_again : goal.returns-clause-read_again
returns-clause-read_again c = rw c.cut_back.ensures.same (on_ok c.put_shard-outcome.result (written_shard c.args.files.now c.requires) c.put_shard-outcome.ensures.rows)
