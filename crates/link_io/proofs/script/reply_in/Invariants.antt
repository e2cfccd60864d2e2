use Rattle.std.proofs.Common.{◌≡◌, length, map}
use Rattle.link_io.specs.Script.{reply_for}
use Rattle.link_io.proofs.script.reply_in.Given as goal

abbrev pub invariant-replies : goal.invariant-replies
invariant-replies l = reply_for l.url (map (λ p. (p.0, p.1.items)) l.rest) ≡ reply_for l.url (map (λ p. (p.0, p.1.items)) l.replies)

abbrev pub decreases-replies : goal.decreases-replies
decreases-replies l = length l.rest
