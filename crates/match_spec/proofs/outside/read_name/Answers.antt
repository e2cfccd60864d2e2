use Rattle.std.proofs.lemmas.Str.{IsUtf8-from_ascii}
use Rattle.match_spec.proofs.outside.read_name.Goals as goal

pub returns-in_default : goal.returns-in_default
returns-in_default c = absurd (c.in_default.ensures.cases.0 (IsUtf8-from_ascii c.args.run.now c.requires.ascii))
