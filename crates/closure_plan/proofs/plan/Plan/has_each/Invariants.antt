use Rattle.std.proofs.Common.{◌≡◌, ◌-◌, length, flat_map}
use Rattle.std.specs.Prelude.{is_some}
use Rattle.std.specs.List.{list_all, range_with_len}
use Rattle.closure_request.specs.Slots.{slots}
use Rattle.closure_plan.specs.Given.{wanted}
use Rattle.closure_plan.specs.Needs.{is_given, the_shard, shards_of}
use Rattle.closure_plan.specs.Plan.{its_pins, its_leaves, name_at}
use Rattle.closure_plan.proofs.LoopLemmas.{some_of}
use Rattle.closure_plan.proofs.plan.Plan.has_each.Given as goal

abbrev pub invariant-loop-slot : goal.invariant-loop-slot
invariant-loop-slot g l =
    let name = name_at l.self.known.names l.n in
    list_all (is_given (its_pins g.P.PinHolder.contents g.H.LeafHolder.contents l.self.known) (its_leaves g.P.PinHolder.contents g.H.LeafHolder.contents l.self.known)) (flat_map (some_of (is_given (its_pins g.P.PinHolder.contents g.H.LeafHolder.contents l.self.known) (its_leaves g.P.PinHolder.contents g.H.LeafHolder.contents l.self.known)) (λ s. is_some (wanted l.self.known.request (its_pins g.P.PinHolder.contents g.H.LeafHolder.contents l.self.known) s name)) (λ s. the_shard s name)) (range_with_len l.slot (length (slots l.self.known.request) - l.slot)))
    ≡ list_all (is_given (its_pins g.P.PinHolder.contents g.H.LeafHolder.contents l.self.known) (its_leaves g.P.PinHolder.contents g.H.LeafHolder.contents l.self.known)) (shards_of l.self.known.request (its_pins g.P.PinHolder.contents g.H.LeafHolder.contents l.self.known) name)
