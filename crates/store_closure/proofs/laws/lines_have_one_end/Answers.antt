use Rattle.store_closure.proofs.EndLemmas.{lines_have_one_end}
use Rattle.store_closure.proofs.laws.lines_have_one_end.Goals as goal

pub returns : goal.returns
returns c = lines_have_one_end
