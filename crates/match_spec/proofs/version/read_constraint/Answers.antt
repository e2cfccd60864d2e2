use Rattle.match_spec.proofs.AsciiLemmas.{bytes-refused}
use Rattle.match_spec.proofs.version.read_constraint.Goals as goal

pub returns-in_default : goal.returns-in_default
returns-in_default c = bytes-refused c.args.fault c.args.text.now c.in_default.ensures.cases.0
