use Rattle.std.proofs.Common.{◌≡◌, ◌-◌, length}
use Rattle.std.specs.List.{list_all, range_with_len}
use Rattle.closure_request.specs.Slots.{numbers, slots}
use Rattle.closure_plan.specs.Given.{lets}
use Rattle.closure_plan.specs.Plan.{pins_of}
use Rattle.closure_plan.proofs.sources.Sources.is_first.Given as goal

abbrev pub invariant-loop-t : goal.invariant-loop-t
invariant-loop-t g l =
    list_all (lets l.self.request (pins_of g.P.PinHolder.contents l.self.pins) l.slot l.name) (range_with_len l.t (length (slots l.self.request) - l.t))
    ≡ list_all (lets l.self.request (pins_of g.P.PinHolder.contents l.self.pins) l.slot l.name) (numbers l.self.request)
