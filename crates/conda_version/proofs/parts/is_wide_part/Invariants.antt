use Rattle.std.proofs.Common.{◌≡◌, ◌<◌, ◌^◌, length}
use Rattle.conda_version.specs.Grammar.{is_narrow, narrow_from}
use Rattle.conda_version.proofs.parts.is_wide_part.Given as goal

abbrev pub invariant-bytes : goal.invariant-bytes
invariant-bytes l = record { fits : l.value < 2 ^ 128; same : is_narrow l.part ≡ narrow_from l.value l.rest }

abbrev pub decreases-bytes : goal.decreases-bytes
decreases-bytes l = length l.rest
