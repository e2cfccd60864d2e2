use Rattle.std.proofs.Common.{◌≡◌, ◌∙◌, List, Some, ap, sym}
use Rattle.std.specs.List.{slice_get}
use Rattle.std.specs.Option.{option_map}
use Rattle.std.proofs.lemmas.Option.{slice_get-get_or}
use Rattle.match_spec.specs.Parts.{Meaning}
use Rattle.closure_plan.proofs.RootLemmas.{no_roots}
use Rattle.closure_plan.proofs.roots.Roots.of.Goals as goal

pub loop-i-init : goal.loop-i-init
loop-i-init c = rw (c.new.ensures, c.new-2.ensures.items) (no_roots c.args.specs.now)

pub loop-i-preserved : goal.loop-i-preserved
loop-i-preserved c =
    let specs : List Meaning = c.args.specs.now in
    let here : option_map (λ (s : Meaning). s.name) (slice_get specs c.loop-i.i) ≡ Some c.name.result.now
    = ap (option_map (λ (s : Meaning). s.name)) (slice_get-get_or specs c.loop-i.i c.index-specs-i.result c.loop-i-test.true ∙ ap Some (sym c.index-specs-i.is)) ∙ ap Some (sym c.name.ensures) in
    c.in_ok-add.ensures specs here c.loop-i.invariant
