use Rattle.std.proofs.Common.{◌<◌, subst}
use Rattle.conda_record.specs.View.{seen}
use Rattle.closure_plan.proofs.FreshLemmas.{text_more}
use Rattle.closure_plan.proofs.plan.names.texts_of.Goals as goal

pub loop-i-preserved : goal.loop-i-preserved
loop-i-preserved c =
    text_more c.loop-i.texts.items c.push_if.new.texts.items c.depend.result (seen c.args.view).depends c.loop-i.i
    (subst (λ n. c.loop-i.i < n) c.depends_len-i-end.ensures c.loop-i-test.true) c.loop-i.invariant c.depend.ensures c.in_ok-push_if.ensures
