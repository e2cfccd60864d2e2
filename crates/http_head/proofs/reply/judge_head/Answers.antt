use Rattle.std.proofs.Common.{refl}
use Rattle.http_head.proofs.reply.judge_head.Goals as goal

pub returns : goal.returns
returns c = record { exact = c.reply_of.ensures.judges c.args.received.now c.read_head.ensures.exact refl }
