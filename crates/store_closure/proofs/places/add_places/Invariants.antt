use Rattle.std.proofs.Common.{◌≡◌, ◌++◌, map, take}
use Rattle.store_closure.specs.Places.{place}
use Rattle.store_closure.proofs.places.add_places.Given as goal

abbrev pub invariant-loop-subdir : goal.invariant-loop-subdir
invariant-loop-subdir l = l.places.items ≡ l.initial.places.items ++ map (place l.channel) (take l.subdir-index l.subdirs)
