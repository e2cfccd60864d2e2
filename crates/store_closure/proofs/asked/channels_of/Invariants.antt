use Rattle.std.proofs.Common.{◌≡◌, map, take}
use Rattle.store_closure.specs.Asked.{site_of}
use Rattle.store_closure.proofs.asked.channels_of.Given as goal

abbrev pub invariant-loop-name : goal.invariant-loop-name
invariant-loop-name l = l.channels.items ≡ map site_of (take l.name-index l.names)
