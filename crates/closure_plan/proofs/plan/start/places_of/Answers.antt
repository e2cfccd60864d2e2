use Rattle.std.proofs.Common.{◌∙◌, ◌++◌, sym, ap}
use Rattle.closure_plan.specs.Start.{places_in}
use Rattle.closure_plan.proofs.RowLemmas.{flat_map_more}
use Rattle.closure_plan.proofs.plan.start.places_of.Goals as goal

pub loop-channel-preserved : goal.loop-channel-preserved
loop-channel-preserved c = c.in_ok-add_places.ensures ∙ ap (λ xs. xs ++ places_in c.args.subdirs c.loop-channel.channel) c.loop-channel.invariant ∙ sym (flat_map_more (places_in c.args.subdirs) c.loop-channel.channel)
