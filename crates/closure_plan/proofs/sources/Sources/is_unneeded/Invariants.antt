use Rattle.std.proofs.Common.{◌≡◌, ◌-◌, length, not}
use Rattle.std.specs.Prelude.{is_some}
use Rattle.std.specs.List.{list_all, range_with_len}
use Rattle.closure_request.specs.Slots.{numbers, slots}
use Rattle.closure_plan.specs.Given.{wanted}
use Rattle.closure_plan.specs.Plan.{pins_of}
use Rattle.closure_plan.proofs.sources.Sources.is_unneeded.Given as goal

abbrev pub invariant-loop-slot : goal.invariant-loop-slot
invariant-loop-slot g l =
    list_all (λ s. not (is_some (wanted l.self.request (pins_of g.P.PinHolder.contents l.self.pins) s l.name))) (range_with_len l.slot (length (slots l.self.request) - l.slot))
    ≡ list_all (λ s. not (is_some (wanted l.self.request (pins_of g.P.PinHolder.contents l.self.pins) s l.name))) (numbers l.self.request)
