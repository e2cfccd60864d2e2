use Rattle.std.proofs.Common.{take, map, flat_map}
use Rattle.closure_plan.specs.Given.{names_of_text}
use Rattle.closure_plan.specs.Fresh.{Grows}
use Rattle.closure_plan.proofs.plan.Plan.add_texts.Given as goal

abbrev pub invariant-loop-text : goal.invariant-loop-text
invariant-loop-text g l = Grows l.self.known.names l.initial.fresh l.fresh (flat_map names_of_text (map (λ t. t.now) (take l.text-index l.texts)))
