use Rattle.channel_indexer.proofs.UniqueLemmas.{one-grouping}
use Rattle.channel_indexer.proofs.laws.rows_have_one_grouping.Goals as goal

pub returns : goal.returns
returns c = one-grouping
