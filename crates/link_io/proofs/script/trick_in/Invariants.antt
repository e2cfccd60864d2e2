use Rattle.std.proofs.Common.{◌≡◌, length}
use Rattle.link_io.specs.Script.{trick_at}
use Rattle.link_io.proofs.script.trick_in.Given as goal

abbrev pub invariant-lines : goal.invariant-lines
invariant-lines l = trick_at l.number l.call l.rest ≡ trick_at l.number l.call l.script

abbrev pub decreases-lines : goal.decreases-lines
decreases-lines l = length l.rest
