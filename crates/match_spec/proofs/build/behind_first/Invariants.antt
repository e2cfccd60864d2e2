use Rattle.std.proofs.Common.{◌≡◌, length}
use Rattle.match_spec.specs.StarBuild.{behind_first}
use Rattle.match_spec.proofs.build.behind_first.Given as goal

abbrev pub invariant-bytes : goal.invariant-bytes
invariant-bytes l = behind_first l.piece l.rest ≡ behind_first l.piece l.text

abbrev pub decreases-bytes : goal.decreases-bytes
decreases-bytes l = length l.rest
