use Rattle.std.proofs.Common.{take, flat_map, map}
use Rattle.closure_plan.specs.Closure.{found}
use Rattle.closure_plan.specs.Given.{given}
use Rattle.closure_plan.specs.Rows.{Adds}
use Rattle.closure_plan.specs.Plan.{its_pins, its_leaves, name_at}
use Rattle.closure_plan.proofs.plan.Plan.rows_in.Given as goal

abbrev pub invariant-loop-i : goal.invariant-loop-i
invariant-loop-i g l =
    let leaves = its_leaves g.P.PinHolder.contents g.H.LeafHolder.contents l.self.known in
    Adds l.self.known.request leaves l.initial.rows.items l.rows.items (flat_map (λ k. map (found l.self.known.request l.slot) (given l.self.known.request (its_pins g.P.PinHolder.contents g.H.LeafHolder.contents l.self.known) leaves l.slot (name_at l.self.known.names k))) (take l.i l.self-inside.order.items))
