use Rattle.std.proofs.Common.{◌≡◌, drop, map}
use Rattle.std.specs.List.{list_any}
use Rattle.closure_plan.specs.Needs.{is_key}
use Rattle.closure_plan.specs.Plan.{pins_of, wish_of}
use Rattle.closure_plan.proofs.plan.Plan.has_key_of_other.Given as goal

abbrev pub invariant-loop-mark : goal.invariant-loop-mark
invariant-loop-mark g l =
    list_any (is_key l.self.known.request (pins_of g.P.PinHolder.contents l.self.known.pins) (wish_of l.self.known.names l.need)) (map (wish_of l.self.known.names) (drop l.mark-index l.mark-items))
    ≡ list_any (is_key l.self.known.request (pins_of g.P.PinHolder.contents l.self.known.pins) (wish_of l.self.known.names l.need)) (map (wish_of l.self.known.names) l.mark-items)
