use Rattle.http_head.proofs.ReplyLemmas.{ended-settled}
use Rattle.http_head.proofs.laws.ended_replies_are_decided.Goals as goal

pub returns : goal.returns
returns c = ended-settled
