use Rattle.std.proofs.Common.{sym}
use Rattle.store_closure.proofs.LineLemmas.{next_is}
use Rattle.store_closure.proofs.lines.next_line.Goals as goal

pub returns-in-Some-clause-some : goal.returns-in-Some-clause-some
returns-in-Some-clause-some c =
    next_is c.args.bytes.now c.in-Some.at c.without_return.result.now (sym c.in-Some.ensures.value) c.in-Some.ensures.within c.without_return.ensures
