use Rattle.shard_index.specs.Index.{IndexFault}
use Rattle.mp_codec.proofs.FirstLemmas.{one_first}
use Rattle.shard_index.proofs.IndexLemmas.{index_says, says_index, index_faults, faults_index, one_index, clean_index}
use Rattle.shard_index.proofs.laws.bytes_are_an_index_or_have_a_first_fault.Goals as goal

pub returns-clause-index : goal.returns-clause-index
returns-clause-index c bytes contents = (index_says bytes contents, says_index bytes contents)

pub returns-clause-fault : goal.returns-clause-fault
returns-clause-fault c bytes f = (index_faults bytes f, faults_index bytes f)

pub returns-clause-one : goal.returns-clause-one
returns-clause-one c = one_index

pub returns-clause-one_fault : goal.returns-clause-one_fault
returns-clause-one_fault c bytes = one_first (IndexFault bytes)

pub returns-clause-clean : goal.returns-clause-clean
returns-clause-clean c = clean_index
