use Rattle.match_spec.specs.Parts.{no_parts}
use Rattle.match_spec.proofs.SwapLemmas.{entries-swap}
use Rattle.match_spec.proofs.laws.parts_of_a_bracket_may_change_places.Goals as goal

pub returns : goal.returns
returns c = record { swapped = λ before after a b parts. entries-swap before after a b no_parts parts }
