use Rattle.shard_file.proofs.WrittenLemmas.{read_again, same_rows, shortest_shard}
use Rattle.shard_file.proofs.laws.a_written_shard_is_read.Goals as goal

pub returns-clause-read : goal.returns-clause-read
returns-clause-read c = read_again

pub returns-clause-apart : goal.returns-clause-apart
returns-clause-apart c = same_rows

pub returns-clause-shortest : goal.returns-clause-shortest
returns-clause-shortest c = shortest_shard
