use Rattle.shard_index.proofs.WrittenLemmas.{read_again, same_index, shortest_index}
use Rattle.shard_index.proofs.laws.a_written_index_is_read.Goals as goal

pub returns-clause-read : goal.returns-clause-read
returns-clause-read c = read_again

pub returns-clause-apart : goal.returns-clause-apart
returns-clause-apart c = same_index

pub returns-clause-shortest : goal.returns-clause-shortest
returns-clause-shortest c = shortest_index
