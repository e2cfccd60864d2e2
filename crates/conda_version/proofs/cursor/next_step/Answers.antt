use Rattle.std.proofs.Common.{rules, ◌≡◌, ◌∙◌, ap}
use Rattle.conda_version.specs.Grammar.{is_narrow}
use Rattle.conda_version.specs.Cursor.{after_word}
use Rattle.conda_version.proofs.StepLemmas.{narrow-step}
use Rattle.conda_version.proofs.cursor.next_step.Goals as goal

pub returns-clause-narrow : goal.returns-clause-narrow
returns-clause-narrow c =
    let e : c.split_at.result.1.now ≡ after_word c.number-number.result.1.now = search rules in
    ap is_narrow e ∙ narrow-step c.number-number.result.1.now c.number-number.ensures.narrow
