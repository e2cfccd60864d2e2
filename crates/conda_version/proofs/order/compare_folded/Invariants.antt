use Rattle.std.proofs.Common.{◌≡◌, length}
use Rattle.std.specs.Prelude.{map}
use Rattle.std.specs.Ordering.{nat_cmp}
use Rattle.std.specs.Cmp.Lexicographic.{slice_cmp}
use Rattle.conda_version.specs.Version.{folded}
use Rattle.conda_version.proofs.order.compare_folded.Given as goal

abbrev pub invariant-bytes : goal.invariant-bytes
invariant-bytes l = slice_cmp nat_cmp (map folded l.v) (map folded l.w) ≡ slice_cmp nat_cmp (map folded l.left) (map folded l.right)

abbrev pub decreases-bytes : goal.decreases-bytes
decreases-bytes l = length l.left
