use Rattle.std.proofs.Common.{◌≡◌, drop, find, flat_map}
use Rattle.closure_plan.specs.Closure.{reach}
use Rattle.closure_plan.specs.Needs.{shards_of}
use Rattle.closure_plan.specs.Plan.{may_ask, its_pins, its_leaves, name_at}
use Rattle.closure_plan.proofs.plan.Plan.next_leaf.Given as goal

abbrev pub invariant-loop-i : goal.invariant-loop-i
invariant-loop-i g l =
    find (may_ask g.P.PinHolder.contents g.H.LeafHolder.contents l.self) (flat_map (λ k. shards_of l.self.known.request (its_pins g.P.PinHolder.contents g.H.LeafHolder.contents l.self.known) (name_at l.self.known.names k)) (drop l.i l.self-inside.owing.items))
    ≡ find (may_ask g.P.PinHolder.contents g.H.LeafHolder.contents l.self) (flat_map (shards_of l.self.known.request (its_pins g.P.PinHolder.contents g.H.LeafHolder.contents l.self.known)) (reach l.self.known.request (its_pins g.P.PinHolder.contents g.H.LeafHolder.contents l.self.known) (its_leaves g.P.PinHolder.contents g.H.LeafHolder.contents l.self.known)))
