use Rattle.std.proofs.Common.{rules, ◌≡◌, None, Some, ap, sym, ◌∙◌}
use Rattle.conda_version.specs.Constraint.{constraint_fault}
use Rattle.conda_version.proofs.FirstLemmas.{fault-is-first}
use Rattle.conda_version.proofs.TreeLemmas.{no-fault-tree, tree-no-fault}
use Rattle.conda_version.proofs.constraint.Constraint.read.Goals as goal

pub returns-in-Some-clause-only : goal.returns-in-Some-clause-only
returns-in-Some-clause-only c = λ t.
    let e : Some c.in-Some.fault ≡ None = c.in-Some.ensures ∙ ap constraint_fault c.as_bytes.ensures.value ∙ tree-no-fault c.args.text.now t in
    cc e

pub returns-clause-found : goal.returns-clause-found
returns-clause-found c =
    let none : constraint_fault c.args.text.now ≡ None = search rules in
    (search rules, no-fault-tree c.args.text.now none)

pub returns-in-Some-clause-fault : goal.returns-in-Some-clause-fault
returns-in-Some-clause-fault c =
    fault-is-first c.args.text.now c.in-Some.fault (sym (c.in-Some.ensures ∙ ap constraint_fault c.as_bytes.ensures.value))
