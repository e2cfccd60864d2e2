use Rattle.mp_codec.proofs.JudgingLemmas.{lies_whole}
use Rattle.mp_codec.proofs.PassingLemmas.{value_or_break_at}
use Rattle.mp_codec.proofs.laws.a_value_stands_or_breaks_off.Goals as goal

pub returns : goal.returns
returns c = record { one = value_or_break_at; not_both = lies_whole }
