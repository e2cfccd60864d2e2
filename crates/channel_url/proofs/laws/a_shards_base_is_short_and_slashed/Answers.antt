use Rattle.channel_url.proofs.BaseLemmas.{shards-bases}
use Rattle.channel_url.proofs.laws.a_shards_base_is_short_and_slashed.Goals as goal

pub returns : goal.returns
returns c = shards-bases
