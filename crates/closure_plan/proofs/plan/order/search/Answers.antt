use Rattle.std.proofs.Common.{List, ℕ, length, rules}
use Rattle.std.proofs.lemmas.Fn.{always_returns_same}
use Rattle.closure_plan.specs.Plan.{name_at}
use Rattle.closure_plan.proofs.OrderLemmas.{compared, search_at, search_end, search_has, search_known_all, search_new_all}
use Rattle.closure_plan.proofs.plan.order.search.Goals as goal

pub returns : goal.returns
returns c =
    let names : List (List ℕ) = c.args.names.now in
    let n : List ℕ = c.args.name.now in
    let order : List ℕ = c.args.order.now in
    let place = c.binary_search_by.ensures.position (compared (name_at names) n) (always_returns_same _ _ _ (λ a r f' called. search rules)) in
    let bound = c.binary_search_by.ensures.bound in
    record {
      is = λ listed o. search_has (name_at names) n order listed o.is c.binary_search_by.result bound place;
      found = search_at (name_at names) n order c.binary_search_by.result bound place;
      bound = search_end c.binary_search_by.result (length order) bound;
      known = search_known_all names n order c.binary_search_by.result bound place;
      new = search_new_all names n order c.binary_search_by.result bound place;
    }
