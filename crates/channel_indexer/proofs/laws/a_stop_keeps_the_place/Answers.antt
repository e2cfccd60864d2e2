use Rattle.channel_indexer.proofs.StandingLemmas.{stop-keeps}
use Rattle.channel_indexer.proofs.laws.a_stop_keeps_the_place.Goals as goal

pub returns : goal.returns
returns c = stop-keeps
