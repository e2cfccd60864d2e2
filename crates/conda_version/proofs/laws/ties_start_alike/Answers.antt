use Rattle.conda_version.proofs.OrderLemmas.{versions-start-alike}
use Rattle.conda_version.proofs.laws.ties_start_alike.Goals as goal

pub returns : goal.returns
returns c = record { alike = versions-start-alike }
