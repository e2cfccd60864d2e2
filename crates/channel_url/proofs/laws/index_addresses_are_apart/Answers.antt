use Rattle.channel_url.proofs.ApartLemmas.{indexes-apart}
use Rattle.channel_url.proofs.laws.index_addresses_are_apart.Goals as goal

pub returns : goal.returns
returns c = indexes-apart
