use Rattle.channel_indexer.proofs.LawLemmas.{groups-have}
use Rattle.channel_indexer.proofs.laws.groups_have_the_rows.Goals as goal

pub returns : goal.returns
returns c = λ rows groups are. groups-have groups rows are.ascending are.each
