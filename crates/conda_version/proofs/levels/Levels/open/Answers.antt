use Rattle.std.proofs.Common.{rules, ◌<◌, ◌∷◌, length, ◌∙◌}
use Rattle.conda_version.specs.Allowing.{fresh}
use Rattle.conda_version.proofs.LevelLemmas.{stack-push}
use Rattle.conda_version.proofs.levels.Levels.open.Goals as goal

pub returns : goal.returns
returns c =
    let room : c.self.inside.depth < length c.self.inside.outer = search rules in
    (λ i. c.fresh-self-inside.ensures i ∷ stack-push c.self.inside.outer c.self.inside.depth c.self.inside.inner room i)
    ∙ (λ i. fresh ∷ c.self.view_is i)
