use Rattle.std.proofs.Common.{◌≡◌, take}
use Rattle.closure_request.proofs.reading.copy_subdirs.Given as goal

abbrev pub invariant-loop-subdir : goal.invariant-loop-subdir
invariant-loop-subdir l = l.copies.items ≡ take l.subdir-index l.subdirs
