use Rattle.channel_indexer.proofs.StandingLemmas.{indexed-stands}
use Rattle.channel_indexer.proofs.laws.an_indexed_place_stands.Goals as goal

pub returns : goal.returns
returns c = indexed-stands
