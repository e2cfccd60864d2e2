use Rattle.http_head.proofs.UnsettledLemmas.{nothing-unsettled}
use Rattle.http_head.proofs.laws.nothing_is_decided_before_the_first_byte.Goals as goal

pub returns : goal.returns
returns c = nothing-unsettled
