use Rattle.http_head.proofs.ReplyLemmas.{fronts-are-good}
use Rattle.http_head.proofs.laws.fronts_of_replies_are_good.Goals as goal

pub returns : goal.returns
returns c = fronts-are-good
