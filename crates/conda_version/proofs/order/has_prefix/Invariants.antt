use Rattle.std.proofs.Common.{◌≡◌, length}
use Rattle.std.specs.Prelude.{map}
use Rattle.conda_version.specs.Version.{folded}
use Rattle.conda_version.specs.Order.{begins_with}
use Rattle.conda_version.proofs.order.has_prefix.Given as goal

abbrev pub invariant-bytes : goal.invariant-bytes
invariant-bytes l = begins_with (map folded l.v) (map folded l.p) ≡ begins_with (map folded l.left) (map folded l.right)

abbrev pub decreases-bytes : goal.decreases-bytes
decreases-bytes l = length l.right
