use Rattle.std.proofs.Common.{◌≡◌, drop, flat_map}
use Rattle.std.specs.List.{list_all}
use Rattle.closure_plan.specs.Closure.{reach}
use Rattle.closure_plan.specs.Needs.{is_given, shards_of}
use Rattle.closure_plan.specs.Plan.{its_pins, its_leaves, name_at}
use Rattle.closure_plan.proofs.plan.Plan.all_leaves.Given as goal

abbrev pub invariant-loop-i : goal.invariant-loop-i
invariant-loop-i g l =
    list_all (is_given (its_pins g.P.PinHolder.contents g.H.LeafHolder.contents l.self.known) (its_leaves g.P.PinHolder.contents g.H.LeafHolder.contents l.self.known)) (flat_map (λ k. shards_of l.self.known.request (its_pins g.P.PinHolder.contents g.H.LeafHolder.contents l.self.known) (name_at l.self.known.names k)) (drop l.i l.self-inside.owing.items))
    ≡ list_all (is_given (its_pins g.P.PinHolder.contents g.H.LeafHolder.contents l.self.known) (its_leaves g.P.PinHolder.contents g.H.LeafHolder.contents l.self.known)) (flat_map (shards_of l.self.known.request (its_pins g.P.PinHolder.contents g.H.LeafHolder.contents l.self.known)) (reach l.self.known.request (its_pins g.P.PinHolder.contents g.H.LeafHolder.contents l.self.known) (its_leaves g.P.PinHolder.contents g.H.LeafHolder.contents l.self.known)))
