use Rattle.std.proofs.Common.{sym, ◌∙◌}
use Rattle.conda_version.proofs.FaultLemmas.{ends-low-last}
use Rattle.conda_version.proofs.parts.ends_in_underscore.Goals as goal

pub returns-in-len1-up : goal.returns-in-len1-up
returns-in-len1-up c = c.is_underscore.ensures ∙ sym (ends-low-last c.args.part.now c.in-len1-up.len_at_least)
