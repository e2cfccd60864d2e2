use Rattle.channel_indexer.proofs.UniqueLemmas.{one-fault, no-place-fault}
use Rattle.channel_indexer.proofs.laws.a_place_has_one_fault.Goals as goal

pub returns-clause-one : goal.returns-clause-one
returns-clause-one c = one-fault

pub returns-clause-not_both : goal.returns-clause-not_both
returns-clause-not_both c = no-place-fault
