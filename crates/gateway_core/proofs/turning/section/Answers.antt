use Rattle.std.proofs.Common.{◌≡◌}
use Rattle.gateway_core.proofs.turning.section.Goals as goal

pub returns-in-Step : goal.returns-in-Step
returns-in-Step g c = c.step_section.ensures.turns c.args.table.now
