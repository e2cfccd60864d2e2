use Rattle.std.proofs.Common.{◌≡◌, ◌∙◌, None, rules}
use Rattle.conda_version.specs.Allowing.{allowed_by, allows}
use Rattle.conda_version.specs.Grammar.{version_of}
use Rattle.conda_version.specs.Constraint.{constraint_fault}
use Rattle.conda_version.proofs.TreeLemmas.{allowed-tree, allows-answer}
use Rattle.conda_version.proofs.constraint.Constraint.allows.Goals as goal

pub returns-clause-tree : goal.returns-clause-tree
returns-clause-tree c = λ tree is.
    c.allows_read.ensures
    ∙ (λ i. allowed_by (c.read.ensures.exact i) ((c.as_bytes.ensures.value ∙ c.self.view_is) i))
    ∙ allowed-tree (version_of c.args.version.now) c.args.self.now tree is

pub returns-clause-exact : goal.returns-clause-exact
unfolding allows
returns-clause-exact c =
    c.allows_read.ensures
    ∙ (λ i. allowed_by (c.read.ensures.exact i) ((c.as_bytes.ensures.value ∙ c.self.view_is) i))

pub returns-clause-meaning : goal.returns-clause-meaning
unfolding allows
returns-clause-meaning c =
    let none : constraint_fault c.args.self.now ≡ None = search rules in
    allows-answer c.allows_read.result c.args.self.now c.args.version.now none
    (c.allows_read.ensures ∙ (λ i. allowed_by (c.read.ensures.exact i) ((c.as_bytes.ensures.value ∙ c.self.view_is) i)))
