use Rattle.std.proofs.Common.{◌≡◌, length}
use Rattle.match_spec.specs.StarBuild.{behind_start}
use Rattle.match_spec.proofs.build.behind_start.Given as goal

abbrev pub invariant-bytes : goal.invariant-bytes
invariant-bytes l = behind_start l.piece l.rest ≡ behind_start l.fn.piece l.text

abbrev pub decreases-bytes : goal.decreases-bytes
decreases-bytes l = length l.piece
