use Rattle.std.proofs.Common.{◌≡◌, take}
use Rattle.gateway_core.proofs.scheduling.subdirs_of.Given as goal

abbrev pub invariant-loop-subdir : goal.invariant-loop-subdir
invariant-loop-subdir l = l.copies.items ≡ take l.subdir-index l.subdir-items
