use Rattle.std.proofs.Common.{◌∙◌, ◌++◌, ◌∷◌, [], sym, ap, None}
use Rattle.closure_plan.proofs.SlotLemmas.{unpinned_more}
use Rattle.closure_plan.proofs.plan.start.no_pins.Goals as goal

pub loop-i-preserved : goal.loop-i-preserved
loop-i-preserved g c = c.in_ok-push.ensures.items ∙ ap (λ xs. xs ++ None ∷ []) c.loop-i.invariant ∙ sym (unpinned_more c.loop-i.i)
