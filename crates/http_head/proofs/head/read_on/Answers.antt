use Rattle.std.proofs.Common.{subst, take, rules}
use Rattle.http_head.specs.Head.{IsReading}
use Rattle.http_head.proofs.ReplyLemmas.{known-on, headless-on}
use Rattle.http_head.proofs.head.read_on.Goals as goal

pub returns-in-Some : goal.returns-in-Some
returns-in-Some c = record {
  exact = known-on c.args.before c.args.received.now c.in-Some.head
      (subst (IsReading (take c.args.before c.args.received.now)) c.in-Some.is c.requires.known);
}

pub returns-then-before-ge-HEAD_LIMIT : goal.returns-then-before-ge-HEAD_LIMIT
returns-then-before-ge-HEAD_LIMIT c = record {
  exact = headless-on c.args.before c.args.received.now (search rules)
      (subst (IsReading (take c.args.before c.args.received.now)) c.in-None.is c.requires.known);
}
