use Rattle.conda_version.proofs.AlikeLemmas.{starts-itself, starts-tied}
use Rattle.conda_version.proofs.laws.a_version_starts_with_its_equals.Goals as goal

pub returns : goal.returns
returns c = record { equal = starts-tied; itself = starts-itself }
