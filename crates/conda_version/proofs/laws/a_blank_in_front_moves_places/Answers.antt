use Rattle.conda_version.proofs.BlankLemmas.{allows-moved, fault-moved, version-moved}
use Rattle.conda_version.proofs.laws.a_blank_in_front_moves_places.Goals as goal

pub returns : goal.returns
returns c = record { version = version-moved; fault = fault-moved; allows = allows-moved }
