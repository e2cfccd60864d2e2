use Rattle.mp_codec.proofs.UniqueLemmas.{one_value}
use Rattle.mp_codec.proofs.laws.no_bytes_spell_two_values.Goals as goal

pub returns : goal.returns
returns c = one_value
