use Rattle.std.proofs.Common.{◌∙◌, ◌++◌, ◌∷◌, [], sym, ap, append_assoc, ℕ}
use Rattle.closure_plan.specs.declared.sources.Place.{Place}
use Rattle.closure_plan.specs.Start.{places_in}
use Rattle.closure_plan.proofs.SlotLemmas.{map_more}
use Rattle.closure_plan.proofs.plan.start.add_places.Goals as goal

pub loop-subdir-preserved : goal.loop-subdir-preserved
loop-subdir-preserved c =
    let f : ℕ → Place = λ d. record { channel = c.args.channel; subdir = d } in
    c.in_ok-push.ensures.items ∙ ap (λ xs. xs ++ f c.loop-subdir.subdir ∷ []) c.loop-subdir.invariant
    ∙ append_assoc c.args.places.now.items (places_in c.loop-subdir.subdir c.args.channel) (f c.loop-subdir.subdir ∷ [])
    ∙ ap (λ xs. c.args.places.now.items ++ xs) (sym (map_more f c.loop-subdir.subdir))
