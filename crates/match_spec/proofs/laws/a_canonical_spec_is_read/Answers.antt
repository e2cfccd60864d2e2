use Rattle.match_spec.proofs.CanonicalLemmas.{canonical-read}
use Rattle.match_spec.proofs.laws.a_canonical_spec_is_read.Goals as goal

pub returns : goal.returns
returns c = record { read = canonical-read }
