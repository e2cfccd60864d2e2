use Rattle.channel_store.proofs.NameLemmas.{input_is_store_name, index_is_store_name, shard_is_store_name}
use Rattle.channel_store.proofs.laws.files_of_a_place_have_store_names.Goals as goal

pub returns-clause-input : goal.returns-clause-input
returns-clause-input c = input_is_store_name

pub returns-clause-index : goal.returns-clause-index
returns-clause-index c = index_is_store_name

pub returns-clause-shard : goal.returns-clause-shard
returns-clause-shard c place digits placed are = shard_is_store_name place placed digits are
