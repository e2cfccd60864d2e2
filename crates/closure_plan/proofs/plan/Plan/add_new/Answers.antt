use Rattle.std.proofs.Common.{◌≡◌, ◌∙◌, ◌||◌, ◌∷◌, [], List, ℕ, ap, sym, subst, true, false}
use Rattle.closure_plan.specs.Names.{has_name}
use Rattle.closure_plan.specs.Fresh.{Grows}
use Rattle.closure_plan.proofs.FreshLemmas.{grows_known, grows_push}
use Rattle.closure_plan.proofs.plan.Plan.add_new.Goals as goal

pub returns-then-is_listed : goal.returns-then-is_listed
returns-then-is_listed g c =
    let names : List (List ℕ) = c.args.self.now.known.names in
    let is = rw c.as_str.ensures.value at c.is_listed.ensures in
    let known : (has_name names c.args.name || has_name c.args.fresh.now c.args.name) ≡ true = sym is ∙ c.if-is_listed.true in
    grows_known names c.args.fresh.now c.args.name known

pub returns : goal.returns
returns g c =
    let names : List (List ℕ) = c.args.self.now.known.names in
    let is = rw c.as_str.ensures.value at c.is_listed.ensures in
    let new : (has_name names c.args.name || has_name c.args.fresh.now c.args.name) ≡ false = sym is ∙ c.if-is_listed.false in
    subst (λ new. Grows names c.args.fresh.now new (c.args.name ∷ [])) (sym c.in_ok-push.ensures.ok) (grows_push names c.args.fresh.now c.args.name new)
