use Rattle.channel_indexer.proofs.AscendLemmas.{said-ascend}
use Rattle.channel_indexer.proofs.laws.rows_of_groups_ascend.Goals as goal

pub returns : goal.returns
returns c = said-ascend
