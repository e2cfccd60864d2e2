use Rattle.match_spec.proofs.LegalLemmas.{spec-legal}
use Rattle.match_spec.proofs.laws.what_is_read_is_a_spec.Goals as goal

pub returns : goal.returns
returns c = record { legal = spec-legal }
