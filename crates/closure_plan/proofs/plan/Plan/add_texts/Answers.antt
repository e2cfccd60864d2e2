use Rattle.std.proofs.Common.{map, take, sym, subst, flat_map}
use Rattle.closure_plan.specs.Given.{names_of_text}
use Rattle.closure_plan.specs.Fresh.{Grows}
use Rattle.closure_plan.proofs.FreshLemmas.{grows_both, led_more}
use Rattle.closure_plan.proofs.plan.Plan.add_texts.Goals as goal

pub loop-text-preserved : goal.loop-text-preserved
loop-text-preserved g c =
    subst (Grows c.args.self.now.known.names c.args.fresh.now c.add_text.new.fresh) (sym (led_more c.args.texts.now c.loop-text.text-index _ c.loop-text-test.true))
    (grows_both c.args.self.now.known.names c.args.fresh.now c.loop-text.fresh c.add_text.new.fresh (flat_map names_of_text (map (λ t. t.now) (take c.loop-text.text-index c.args.texts.now))) _ c.loop-text.invariant c.in_ok-add_text.ensures)
