use Rattle.std.proofs.Common.{◌≡◌, [], sym, subst, length, arith, rules}
use Rattle.closure_plan.specs.Fresh.{IsOrder}
use Rattle.closure_plan.proofs.OrderLemmas.{no_order}
use Rattle.closure_plan.proofs.plan.start.numbers_of.Goals as goal

pub returns : goal.returns
returns c = c.put_numbers.ensures (omega arith) (subst (IsOrder c.args.names.now []) (sym c.in_ok-order.ensures.items) (no_order c.args.names.now))
