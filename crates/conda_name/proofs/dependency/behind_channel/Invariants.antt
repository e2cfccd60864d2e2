use Rattle.std.proofs.Common.{◌≡◌, length}
use Rattle.std.specs.Option.{unwrap_or}
use Rattle.conda_name.specs.Dependency.{behind_channel, behind_last}
use Rattle.conda_name.proofs.dependency.behind_channel.Given as goal

abbrev pub invariant-bytes : goal.invariant-bytes
invariant-bytes l = unwrap_or (behind_last l.rest) l.found ≡ behind_channel l.text

abbrev pub decreases-bytes : goal.decreases-bytes
decreases-bytes l = length l.rest
