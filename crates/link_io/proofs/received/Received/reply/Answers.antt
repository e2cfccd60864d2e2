use Rattle.std.proofs.Common.{◌≡◌, List, ℕ, length, rules, subst}
use Rattle.http_head.specs.Reply.{IsReply}
use Rattle.link_io.proofs.received.Received.reply.Goals as goal

pub returns : goal.returns
returns c =
    let size : length c.self.inside.bytes.items ≡ c.len.result = search rules in
    subst (λ (l : List ℕ). IsReply l c.args.ended c.reply_of.result) c.self.view_is (c.reply_of.ensures.judges c.self.inside.bytes.items c.self.invariant size)
