use Rattle.channel_url.proofs.BaseLemmas.{channel-bases}
use Rattle.channel_url.proofs.laws.a_channel_base_is_short_and_slashed.Goals as goal

pub returns : goal.returns
returns c = channel-bases
