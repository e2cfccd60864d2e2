use Rattle.std.proofs.Common.{◌≤◌, ◌+◌, length, take}
use Rattle.std.specs.Prelude.{vec_capacity}
use Rattle.closure_plan.specs.Fresh.{IsOrder}
use Rattle.closure_plan.proofs.plan.order.put_numbers.Given as goal

abbrev pub invariant-loop-n : goal.invariant-loop-n
invariant-loop-n l =
    (l.from ≤ length l.names → IsOrder l.names (take l.from l.names) l.initial.order.items → IsOrder l.names (take l.n l.names) l.order.items)
    × (length l.order.items + length l.names ≤ l.n + vec_capacity l.order)
