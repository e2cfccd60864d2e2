use Rattle.std.proofs.Common.{rules, ◌≡◌, Some, None, option_map, sym, ap, ◌∙◌, subst}
use Rattle.json.specs.Value.{value_view}
use Rattle.conda_record.specs.Tree.{data_of}
use Rattle.conda_record.proofs.TreeLemmas.{IsData, got, got_is_data}
use Rattle.conda_record.proofs.tree.Tree.get.Goals as goal

pub returns-in_err-value : goal.returns-in_err-value
returns-in_err-value c =
    let none : c.from_residual.result ≡ None = search rules in
    let nothing : c.get.result ≡ None = search rules in
    rw none (ap (λ r. option_map data_of (option_map (λ v. value_view v.now) r)) (sym nothing) ∙ ap (option_map data_of) c.get.ensures ∙ got c.args.key.now (value_view c.args.self.value.now) c.args.self.in_range)

pub invariant_of-result : goal.invariant_of-result
invariant_of-result c =
    let some : c.get.result ≡ Some c.in_ok-value.value = search rules in
    let found = sym c.get.ensures ∙ ap (option_map (λ v. value_view v.now)) some in
    record { in_range = subst IsData found (got_is_data c.args.key.now (value_view c.args.self.value.now) c.args.self.in_range) }

pub returns : goal.returns
returns c =
    let some : c.get.result ≡ Some c.in_ok-value.value = search rules in
    ap (λ r. option_map data_of (option_map (λ v. value_view v.now) r)) (sym some) ∙ ap (option_map data_of) c.get.ensures ∙ got c.args.key.now (value_view c.args.self.value.now) c.args.self.in_range
