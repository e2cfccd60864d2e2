use Rattle.std.proofs.Common.{◌≡◌, ◌∙◌, ◌||◌, ◌++◌, ◌∷◌, [], List, ℕ, ap, sym, subst, true, false}
use Rattle.conda_name.specs.Name.{lower_case}
use Rattle.closure_plan.specs.Names.{has_name}
use Rattle.closure_plan.specs.Fresh.{Grows}
use Rattle.closure_plan.proofs.FreshLemmas.{grows_known, grows_push}
use Rattle.closure_plan.proofs.plan.Plan.add_lower.Goals as goal

pub returns-then-is_listed : goal.returns-then-is_listed
returns-then-is_listed g c =
    let names : List (List ℕ) = c.args.self.now.known.names in
    let fresh : List (List ℕ) = c.args.fresh.now in
    let known : (has_name names c.args.dep.now || has_name fresh c.args.dep.now) ≡ true = sym c.is_listed.ensures ∙ c.if-is_listed.true in
    subst (λ (n : List ℕ). Grows names fresh fresh (n ∷ [])) (sym c.requires.lower) (grows_known names fresh c.args.dep.now known)

pub returns : goal.returns
returns g c =
    let names : List (List ℕ) = c.args.self.now.known.names in
    let fresh : List (List ℕ) = c.args.fresh.now in
    let new : (has_name names c.args.dep.now || has_name fresh c.args.dep.now) ≡ false = sym c.is_listed.ensures ∙ c.if-is_listed.false in
    let is : c.push.new.self ≡ fresh ++ c.args.dep.now ∷ [] = c.in_ok-push.ensures.ok ∙ ap (λ (n : List ℕ). fresh ++ n ∷ []) (c.in_ok-name.ensures ∙ c.requires.lower) in
    subst (λ (ns : List (List ℕ)). Grows names fresh ns (lower_case c.args.dep.now ∷ [])) (sym is)
    (subst (λ (n : List ℕ). Grows names fresh (fresh ++ c.args.dep.now ∷ []) (n ∷ [])) (sym c.requires.lower) (grows_push names fresh c.args.dep.now new))
