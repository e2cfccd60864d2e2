use Rattle.std.proofs.Common.{rules, ◌≡◌, ◌==◌, false, length, subst}
use Rattle.std.specs.Prelude.{None}
use Rattle.conda_name.specs.Name.{IsName, first_wrong, lower_case}
use Rattle.conda_name.proofs.NameLemmas.{lower-name}
use Rattle.conda_name.proofs.name.Name.read.Goals as goal

pub invariant_of-result : goal.invariant_of-result
invariant_of-result c =
    let some : (length c.args.text.now == 0) ≡ false = search rules in
    let right : first_wrong c.args.text.now ≡ None = search rules in
    let same : lower_case c.args.text.now ≡ c.in_ok-copy.field-0 = search rules in
    subst IsName same (lower-name c.args.text.now some right)
