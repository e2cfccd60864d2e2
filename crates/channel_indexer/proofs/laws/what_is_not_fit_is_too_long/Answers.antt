use Rattle.channel_indexer.proofs.LengthLemmas.{not-fit-long}
use Rattle.channel_indexer.proofs.laws.what_is_not_fit_is_too_long.Goals as goal

pub returns : goal.returns
returns c = not-fit-long
