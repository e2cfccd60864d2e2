use Rattle.channel_indexer.proofs.UniqueLemmas.{one-order}
use Rattle.channel_indexer.proofs.laws.rows_have_one_order.Goals as goal

pub returns : goal.returns
returns c = one-order
