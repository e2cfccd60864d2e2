use Rattle.std.proofs.Common.{◌≡◌, ◌∙◌, ◌==◌, sym, true}
use Rattle.std.specs.Char.{to_ascii_lowercase}
use Rattle.std.specs.List.{list_all}
use Rattle.closure_plan.proofs.FreshLemmas.{lower_itself}
use Rattle.closure_plan.proofs.plan.Plan.add_name.Goals as goal

pub add_lower-requires-clause-lower : goal.add_lower-requires-clause-lower
add_lower-requires-clause-lower g c =
    let is = rw c.as_bytes.ensures.value at c.is_lower_case.ensures in
    let all : list_all (λ b. b == to_ascii_lowercase b) c.args.dep.now ≡ true = sym is ∙ c.if-is_lower_case.true in
    lower_itself c.args.dep.now all
