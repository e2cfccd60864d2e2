use Rattle.std.proofs.Common.{length}
use Rattle.conda_version.proofs.CursorLemmas.{ReadsNumber}
use Rattle.conda_version.proofs.cursor.number.Given as goal

abbrev pub invariant-digits : goal.invariant-digits
invariant-digits l = ReadsNumber l.text l.value l.rest

abbrev pub decreases-digits : goal.decreases-digits
decreases-digits l = length l.rest
