use Rattle.std.proofs.Common.{◌≡◌, ◌+◌, true, length}
use Rattle.conda_version.specs.Version.{lists}
use Rattle.conda_version.specs.Grammar.{is_narrow}
use Rattle.conda_version.specs.Order.{lists_cmp}
use Rattle.conda_version.proofs.order.compare_parts.Given as goal

abbrev pub invariant-steps : goal.invariant-steps
invariant-steps l = record {
  same : lists_cmp (lists l.a) (lists l.b) ≡ lists_cmp (lists l.left) (lists l.right);
  left : is_narrow l.left ≡ true;
  right : is_narrow l.right ≡ true;
}

abbrev pub decreases-steps : goal.decreases-steps
decreases-steps l = length l.left + length l.right
