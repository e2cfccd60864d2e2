use Rattle.std.proofs.Common.{arith}
use Rattle.store_closure.proofs.LineLemmas.{last_is}
use Rattle.store_closure.proofs.lines.last_line.Goals as goal

pub returns-clause-some : goal.returns-clause-some
returns-clause-some c = last_is c.args.bytes.now c.requires (grind (arith, c.is_empty.ensures, c.if-is_empty.false))
