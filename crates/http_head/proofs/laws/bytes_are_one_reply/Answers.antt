use Rattle.http_head.proofs.ReplyLemmas.{one-reply}
use Rattle.http_head.proofs.laws.bytes_are_one_reply.Goals as goal

pub returns : goal.returns
returns c = one-reply
