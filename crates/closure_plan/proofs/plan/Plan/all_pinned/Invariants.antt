use Rattle.std.proofs.Common.{◌≡◌, ◌-◌, length, map}
use Rattle.std.specs.List.{list_all, range_with_len}
use Rattle.closure_request.specs.Slots.{numbers, slots}
use Rattle.closure_plan.specs.Needs.{is_given, the_index}
use Rattle.closure_plan.specs.Plan.{its_pins, its_leaves}
use Rattle.closure_plan.proofs.plan.Plan.all_pinned.Given as goal

abbrev pub invariant-loop-slot : goal.invariant-loop-slot
invariant-loop-slot g l =
    list_all (is_given (its_pins g.P.PinHolder.contents g.H.LeafHolder.contents l.self.known) (its_leaves g.P.PinHolder.contents g.H.LeafHolder.contents l.self.known)) (map the_index (range_with_len l.slot (length (slots l.self.known.request) - l.slot)))
    ≡ list_all (is_given (its_pins g.P.PinHolder.contents g.H.LeafHolder.contents l.self.known) (its_leaves g.P.PinHolder.contents g.H.LeafHolder.contents l.self.known)) (map the_index (numbers l.self.known.request))
