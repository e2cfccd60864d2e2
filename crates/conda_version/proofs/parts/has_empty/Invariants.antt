use Rattle.std.proofs.Common.{◌≡◌, length}
use Rattle.conda_version.specs.Grammar.{has_empty}
use Rattle.conda_version.proofs.FaultLemmas.{empty_from}
use Rattle.conda_version.proofs.parts.has_empty.Given as goal

abbrev pub invariant-bytes : goal.invariant-bytes
invariant-bytes l = has_empty l.part ≡ empty_from l.begun l.rest

abbrev pub decreases-bytes : goal.decreases-bytes
decreases-bytes l = length l.rest
