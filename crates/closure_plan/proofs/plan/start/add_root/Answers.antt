use Rattle.std.proofs.Common.{◌≡◌, ◌∙◌, ◌++◌, ◌∷◌, [], sym, ap, subst, true, false}
use Rattle.closure_plan.specs.Names.{has_name}
use Rattle.closure_plan.specs.Fresh.{Grows}
use Rattle.closure_plan.proofs.FreshLemmas.{grows_known, grows_push}
use Rattle.closure_plan.proofs.plan.start.add_root.Goals as goal

pub returns-then-has : goal.returns-then-has
returns-then-has c =
    let there : has_name c.args.names.now c.args.name.now ≡ true = ap (has_name c.args.names.now) (sym c.as_str.ensures.value) ∙ sym c.has.ensures ∙ c.if-has.true in
    grows_known [] c.args.names.now c.args.name.now there

pub returns : goal.returns
returns c =
    let new : has_name c.args.names.now c.args.name.now ≡ false = ap (has_name c.args.names.now) (sym c.as_str.ensures.value) ∙ sym c.has.ensures ∙ c.if-has.false in
    subst (λ new. Grows [] c.args.names.now new (c.args.name.now ∷ [])) (sym (c.in_ok-push.ensures.ok ∙ ap (λ m. c.args.names.now ++ m ∷ []) c.in_ok-copy.ensures)) (grows_push [] c.args.names.now c.args.name.now new)
