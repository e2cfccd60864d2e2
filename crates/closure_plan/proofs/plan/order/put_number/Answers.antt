use Rattle.std.proofs.Common.{◌≡◌, ◌∙◌, ◌++◌, ◌∷◌, [], refl, sym, ap, subst, List, ℕ, length, map, arith, rules}
use Rattle.std.specs.List.{insert}
use Rattle.closure_plan.specs.Names.{with_name}
use Rattle.closure_plan.specs.Plan.{name_at}
use Rattle.closure_plan.specs.Fresh.{IsOrder}
use Rattle.closure_plan.proofs.OrderLemmas.{order_put, order_known}
use Rattle.closure_plan.proofs.plan.order.put_number.Goals as goal

pub returns-in-Ok-clause-order : goal.returns-in-Ok-clause-order
returns-in-Ok-clause-order c listed o =
    let names : List (List ℕ) = c.args.names.now in
    let order : List ℕ = c.args.order.now.items in
    let all = c.in-Ok.ensures.known listed (subst (IsOrder names listed) (sym c.deref.ensures.value) o) in
    let known : with_name (name_at names c.args.n) (map (name_at names) order) ≡ map (name_at names) order = rw (c.bytes_at.ensures, c.deref.ensures.value) at all in
    order_known names listed order o c.args.n (name_at names c.args.n) refl known

pub returns-in-Err-clause-order : goal.returns-in-Err-clause-order
returns-in-Err-clause-order c listed o =
    let names : List (List ℕ) = c.args.names.now in
    let order : List ℕ = c.args.order.now.items in
    let all = c.in-Err.ensures.new listed (subst (IsOrder names listed) (sym c.deref.ensures.value) o) in
    let placed : with_name (name_at names c.args.n) (map (name_at names) order) ≡ insert (map (name_at names) order) c.in-Err.at (name_at names c.args.n) = rw (c.bytes_at.ensures, c.deref.ensures.value) at all in
    subst (IsOrder names (listed ++ name_at names c.args.n ∷ [])) (sym c.put_at.ensures.items) (order_put names listed order o c.args.n (name_at names c.args.n) refl c.in-Err.at c.requires.name placed)
