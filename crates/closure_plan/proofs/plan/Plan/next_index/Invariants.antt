use Rattle.std.proofs.Common.{◌≡◌, ◌-◌, length, map, find}
use Rattle.std.specs.List.{range_with_len}
use Rattle.closure_request.specs.Slots.{numbers, slots}
use Rattle.closure_plan.specs.Needs.{the_index}
use Rattle.closure_plan.specs.Plan.{may_ask}
use Rattle.closure_plan.proofs.plan.Plan.next_index.Given as goal

abbrev pub invariant-loop-slot : goal.invariant-loop-slot
invariant-loop-slot g l =
    find (may_ask g.P.PinHolder.contents g.H.LeafHolder.contents l.self) (map the_index (range_with_len l.slot (length (slots l.self.known.request) - l.slot)))
    ≡ find (may_ask g.P.PinHolder.contents g.H.LeafHolder.contents l.self) (map the_index (numbers l.self.known.request))
