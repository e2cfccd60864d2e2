use Rattle.std.proofs.Common.{◌≡◌, ◌∙◌, ◌+◌, ◌-◌, ◌++◌, ◌∷◌, [], List, ℕ, ap, subst, length, arith, rules}
use Rattle.std.proofs.lemmas.List.{get_or-append-add, length-append}
use Rattle.closure_plan.specs.Fresh.{IsOrder}
use Rattle.closure_plan.specs.Plan.{name_at}
use Rattle.closure_plan.proofs.OrderLemmas.{order_kept}
use Rattle.closure_plan.proofs.listing.Listing.push.Goals as goal

pub invariant_of-self-2 : goal.invariant_of-self-2
invariant_of-self-2 c =
    let names : List (List ℕ) = c.self.inside.names.items in
    let name : List (List ℕ) = c.args.name ∷ [] in
    let order : List ℕ = c.self.inside.order.items in
    let all : c.push_reserved.new.self.items ≡ names ++ name = c.push_reserved.ensures.items ∙ ap (λ (ns : List (List ℕ)). ns ++ name) c.in_ok-reserve.ensures.items in
    let kept : IsOrder (names ++ name) names order = order_kept names name names order c.self.invariant.is c.self.invariant.within in
    let put = rw (c.deref.ensures.value, all, c.in_ok-reserve-2.ensures.items) at c.put_number.ensures.order in
    let last : c.len.result - 1 ≡ length names + 0
    = let a = c.len.ensures in let b = c.push_reserved.new.self.ok.0 in let d = ap (λ (ns : List (List ℕ)). length ns) all in let e = length-append names name in omega (arith, a, b, d, e) in
    let is : name_at (names ++ name) (c.len.result - 1) ≡ c.args.name = ap (name_at (names ++ name)) last ∙ get_or-append-add names name 0 [] in
    rw all (subst (λ (n : List ℕ). IsOrder (names ++ name) (names ++ n ∷ []) c.put_number.new.order.items) is (put names kept))
