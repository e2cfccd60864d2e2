use Rattle.std.proofs.Common.{◌≡◌, map}
use Rattle.gateway_core.specs.declared.world.Place.TheVariants.{Unopened}
use Rattle.gateway_core.proofs.scheduling.places_of.Given as goal

abbrev pub invariant-loop-request : goal.invariant-loop-request
invariant-loop-request g l = l.places.items ≡ map Unopened l.yielded
