use Rattle.std.proofs.Common.{map, flat_map}
use Rattle.closure_request.specs.Slots.{numbers}
use Rattle.closure_plan.specs.Closure.{reach}
use Rattle.closure_plan.specs.Needs.{the_index, shards_of}
use Rattle.closure_plan.specs.Plan.{may_ask, its_pins, its_leaves}
use Rattle.closure_plan.proofs.LoopLemmas.{both_first, both_second}
use Rattle.closure_plan.proofs.plan.Plan.next.Goals as goal

pub returns-in-Some-clause-least : goal.returns-in-Some-clause-least
returns-in-Some-clause-least g c =
    let r = c.args.self.now.known.request in
    let pins = its_pins g.P.PinHolder.contents g.H.LeafHolder.contents c.args.self.now.known in
    let leaves = its_leaves g.P.PinHolder.contents g.H.LeafHolder.contents c.args.self.now.known in
    both_first (may_ask g.P.PinHolder.contents g.H.LeafHolder.contents c.args.self.now) (map (λ s. the_index s) (numbers r)) (flat_map (shards_of r pins) (reach r pins leaves)) (the_index c.in-Some.slot) c.in-Some.ensures.find

pub returns-in-None-clause-least : goal.returns-in-None-clause-least
returns-in-None-clause-least g c =
    let r = c.args.self.now.known.request in
    let pins = its_pins g.P.PinHolder.contents g.H.LeafHolder.contents c.args.self.now.known in
    let leaves = its_leaves g.P.PinHolder.contents g.H.LeafHolder.contents c.args.self.now.known in
    both_second (may_ask g.P.PinHolder.contents g.H.LeafHolder.contents c.args.self.now) (map (λ s. the_index s) (numbers r)) (flat_map (shards_of r pins) (reach r pins leaves)) _ c.in-None.ensures.find c.next_leaf.ensures.find
