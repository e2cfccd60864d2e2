use Rattle.std.proofs.Common.{◌≡◌, ◌+◌, ◌<◌, ◌≤◌, ◌^◌, None, length}
use Rattle.conda_version.specs.Constraint.{constraint_fault}
use Rattle.conda_version.specs.Scan.{scan_first}
use Rattle.conda_version.specs.Token.{tokens_from}
use Rattle.conda_version.proofs.scan.first_fault.Given as goal

abbrev pub invariant-tokens : goal.invariant-tokens
invariant-tokens l = record {
  same : constraint_fault l.text ≡ scan_first l.scan (length l.text) (tokens_from None l.at l.rest);
  place : l.at + length l.rest ≡ length l.text;
  depth : l.scan.depth ≤ l.at;
  fits : length l.text < 2 ^ 63;
}

abbrev pub decreases-tokens : goal.decreases-tokens
decreases-tokens l = length l.rest
