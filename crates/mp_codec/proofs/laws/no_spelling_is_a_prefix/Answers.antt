use Rattle.mp_codec.proofs.PassingLemmas.{one_spelling}
use Rattle.mp_codec.proofs.laws.no_spelling_is_a_prefix.Goals as goal

pub returns : goal.returns
returns c = one_spelling
