use Rattle.http_head.proofs.ReplyLemmas.{fronts-have-body}
use Rattle.http_head.proofs.laws.decided_fronts_have_the_body.Goals as goal

pub returns : goal.returns
returns c = fronts-have-body
