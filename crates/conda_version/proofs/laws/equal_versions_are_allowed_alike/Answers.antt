use Rattle.conda_version.proofs.AlikeLemmas.{allowed-alike}
use Rattle.conda_version.proofs.laws.equal_versions_are_allowed_alike.Goals as goal

pub returns : goal.returns
returns c = record { alike = allowed-alike }
