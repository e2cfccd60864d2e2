use Rattle.match_spec.proofs.TextLemmas.{front-tail}
use Rattle.match_spec.proofs.text.without_last.Goals as goal

pub returns-in-len1-up-clause-value : goal.returns-in-len1-up-clause-value
returns-in-len1-up-clause-value c = front-tail c.args.text.now
