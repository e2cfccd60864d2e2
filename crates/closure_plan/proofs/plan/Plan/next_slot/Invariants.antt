use Rattle.std.proofs.Common.{◌≡◌, ◌-◌, length, find, flat_map}
use Rattle.std.specs.Prelude.{is_some}
use Rattle.std.specs.List.{range_with_len}
use Rattle.closure_request.specs.Slots.{slots}
use Rattle.closure_plan.specs.Given.{wanted}
use Rattle.closure_plan.specs.Needs.{the_shard, shards_of}
use Rattle.closure_plan.specs.Plan.{may_ask, its_pins, name_at}
use Rattle.closure_plan.proofs.LoopLemmas.{some_of}
use Rattle.closure_plan.proofs.plan.Plan.next_slot.Given as goal

abbrev pub invariant-loop-slot : goal.invariant-loop-slot
invariant-loop-slot g l =
    let name = name_at l.self.known.names l.n in
    find (may_ask g.P.PinHolder.contents g.H.LeafHolder.contents l.self) (flat_map (some_of (may_ask g.P.PinHolder.contents g.H.LeafHolder.contents l.self) (λ s. is_some (wanted l.self.known.request (its_pins g.P.PinHolder.contents g.H.LeafHolder.contents l.self.known) s name)) (λ s. the_shard s name)) (range_with_len l.slot (length (slots l.self.known.request) - l.slot)))
    ≡ find (may_ask g.P.PinHolder.contents g.H.LeafHolder.contents l.self) (shards_of l.self.known.request (its_pins g.P.PinHolder.contents g.H.LeafHolder.contents l.self.known) name)
