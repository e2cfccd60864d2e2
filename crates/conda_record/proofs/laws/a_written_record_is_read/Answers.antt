use Rattle.conda_record.proofs.WrittenLemmas.{read_again, same_fields, shortest_record}
use Rattle.conda_record.proofs.laws.a_written_record_is_read.Goals as goal

pub returns-clause-read : goal.returns-clause-read
returns-clause-read c = read_again

pub returns-clause-apart : goal.returns-clause-apart
returns-clause-apart c = same_fields

pub returns-clause-shortest : goal.returns-clause-shortest
returns-clause-shortest c = shortest_record
