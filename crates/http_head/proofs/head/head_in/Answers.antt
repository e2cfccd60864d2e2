use Rattle.std.proofs.Common.{subst, ℕ}
use Rattle.httparse.specs.Spans.{ResponseOverflows}
use Rattle.http_head.proofs.HeadLemmas.{missing, overflows}
use Rattle.http_head.proofs.head.head_in.Goals as goal

pub returns-in-Ok-Partial-clause-none : goal.returns-in-Ok-Partial-clause-none
returns-in-Ok-Partial-clause-none c = missing c.args.front.now (rw c.in-Ok-Partial.field-0-is at c.in-Ok-Partial.ensures.partial)

pub returns-in-Err-clause-none : goal.returns-in-Err-clause-none
returns-in-Err-clause-none c = overflows c.args.front.now (subst (λ (n : ℕ). ResponseOverflows n c.args.front.now) c.requires c.in-Err.ensures.no_room)
