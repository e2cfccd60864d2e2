use Rattle.std.proofs.Common.{[], flat_map}
use Rattle.std.specs.List.{range_with_len}
use Rattle.closure_plan.specs.Closure.{closure_in}
use Rattle.closure_plan.specs.Rows.{Adds}
use Rattle.closure_plan.specs.Plan.{its_pins, its_leaves}
use Rattle.closure_plan.proofs.plan.Plan.rows.Given as goal

abbrev pub invariant-loop-slot : goal.invariant-loop-slot
invariant-loop-slot g l = Adds l.self.known.request (its_leaves g.P.PinHolder.contents g.H.LeafHolder.contents l.self.known) [] l.rows.items (flat_map (closure_in l.self.known.request (its_pins g.P.PinHolder.contents g.H.LeafHolder.contents l.self.known) (its_leaves g.P.PinHolder.contents g.H.LeafHolder.contents l.self.known)) (range_with_len 0 l.slot))
