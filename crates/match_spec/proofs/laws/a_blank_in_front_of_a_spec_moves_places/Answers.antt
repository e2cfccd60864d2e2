use Rattle.match_spec.proofs.BlankLemmas.{spec-moved}
use Rattle.match_spec.proofs.laws.a_blank_in_front_of_a_spec_moves_places.Goals as goal

pub returns : goal.returns
returns c = record { spec = spec-moved }
