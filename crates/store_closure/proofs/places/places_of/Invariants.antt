use Rattle.std.proofs.Common.{◌≡◌, take}
use Rattle.store_closure.specs.Places.{places_of}
use Rattle.store_closure.proofs.places.places_of.Given as goal

abbrev pub invariant-loop-channel : goal.invariant-loop-channel
invariant-loop-channel l = l.places.items ≡ places_of (take l.channel-index l.channels) l.subdirs
