use Rattle.std.proofs.Common.{◌<◌, take, flat_map, sym, subst, []}
use Rattle.std.specs.List.{slice_get}
use Rattle.conda_record.specs.View.{seen}
use Rattle.closure_plan.specs.Given.{names_of_text, names_if}
use Rattle.closure_plan.specs.Fresh.{Grows}
use Rattle.closure_plan.proofs.FreshLemmas.{grows_both, some_stay, texts_more}
use Rattle.closure_plan.proofs.plan.Plan.add_few.Goals as goal

pub add_at-requires : goal.add_at-requires
add_at-requires g c =
    let texts = (seen c.args.view).depends in
    some_stay c.args.before (λ v. flat_map names_of_text (seen v).depends) c.args.self.now.known.names c.args.fresh.now c.loop-i.fresh (flat_map names_of_text (take c.loop-i.i texts)) c.loop-i.invariant c.requires

pub loop-i-preserved : goal.loop-i-preserved
loop-i-preserved g c =
    let texts = (seen c.args.view).depends in
    subst (Grows c.args.self.now.known.names c.args.fresh.now c.add_at.new.fresh)
    (sym (texts_more texts c.loop-i.i [] (subst (λ n. c.loop-i.i < n) c.depends_len-i-end.ensures c.loop-i-test.true)))
    (grows_both c.args.self.now.known.names c.args.fresh.now c.loop-i.fresh c.add_at.new.fresh (flat_map names_of_text (take c.loop-i.i texts)) (names_if (slice_get texts c.loop-i.i)) c.loop-i.invariant c.in_ok-add_at.ensures)
