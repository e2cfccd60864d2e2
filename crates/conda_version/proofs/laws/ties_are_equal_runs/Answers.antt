use Rattle.conda_version.proofs.OrderLemmas.{same-ties, ties-same}
use Rattle.conda_version.proofs.laws.ties_are_equal_runs.Goals as goal

pub returns : goal.returns
returns c = record { equal = λ v w. (ties-same v w, same-ties v w) }
