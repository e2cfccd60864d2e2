use Rattle.shard_file.specs.Rows.{ShardFault}
use Rattle.mp_codec.proofs.FirstLemmas.{one_first}
use Rattle.shard_file.proofs.ShardLemmas.{shard_says, says_shard, shard_faults, faults_shard, one_shard, clean_shard}
use Rattle.shard_file.proofs.laws.bytes_are_a_shard_or_have_a_first_fault.Goals as goal

pub returns-clause-shard : goal.returns-clause-shard
returns-clause-shard c bytes rows = (shard_says bytes rows, says_shard bytes rows)

pub returns-clause-fault : goal.returns-clause-fault
returns-clause-fault c bytes f = (shard_faults bytes f, faults_shard bytes f)

pub returns-clause-one : goal.returns-clause-one
returns-clause-one c = one_shard

pub returns-clause-one_fault : goal.returns-clause-one_fault
returns-clause-one_fault c bytes = one_first (ShardFault bytes)

pub returns-clause-clean : goal.returns-clause-clean
returns-clause-clean c = clean_shard
