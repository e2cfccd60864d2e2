use Rattle.conda_record.proofs.RecordLemmas.{record_found, record_at_read, record_first, first_at_read}
use Rattle.conda_record.proofs.laws.a_record_stands_or_has_a_first_fault.Goals as goal

pub returns-clause-record : goal.returns-clause-record
returns-clause-record c here there fields = (record_found here there fields, record_at_read here there fields)

pub returns-clause-fault : goal.returns-clause-fault
returns-clause-fault c here f = (record_first here f, first_at_read here f)
