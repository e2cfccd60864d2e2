use Rattle.channel_indexer.proofs.UniqueLemmas.{one-stood, one-groups}
use Rattle.channel_indexer.proofs.laws.a_file_says_one_indexing.Goals as goal

pub returns-clause-stood : goal.returns-clause-stood
returns-clause-stood c = one-stood

pub returns-clause-groups : goal.returns-clause-groups
returns-clause-groups c = one-groups
