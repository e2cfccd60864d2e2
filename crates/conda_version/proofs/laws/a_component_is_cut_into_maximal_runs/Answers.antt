use Rattle.conda_version.proofs.RunLemmas.{cut-runs, has-cut}
use Rattle.conda_version.proofs.laws.a_component_is_cut_into_maximal_runs.Goals as goal

pub returns : goal.returns
returns c = record { cut = has-cut; runs = cut-runs }
