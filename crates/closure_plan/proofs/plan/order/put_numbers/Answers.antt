use Rattle.std.proofs.Common.{◌++◌, ◌∷◌, [], take, length, arith, rules}
use Rattle.closure_plan.proofs.OrderLemmas.{names_end, names_more}
use Rattle.closure_plan.proofs.plan.order.put_numbers.Goals as goal

pub loop-n-preserved : goal.loop-n-preserved
loop-n-preserved c = (
  (λ low o. names_more c.args.names.now c.loop-n.n c.put_number.new.order.items (search rules) (c.put_number.ensures.order (take c.loop-n.n c.args.names.now) (c.loop-n.invariant.0 low o))),
  (let len = c.put_number.ensures.len in let room = c.put_number.ensures.capacity in let was = c.loop-n.invariant.1 in omega (arith, len, room, was)),
)

pub returns : goal.returns
returns c low o = names_end c.args.names.now c.loop-n.n c.loop-n.order.items (search rules) (c.loop-n.invariant.0 low o)
