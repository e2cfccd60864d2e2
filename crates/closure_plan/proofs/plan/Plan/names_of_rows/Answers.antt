use Rattle.std.proofs.Common.{◌∙◌, ◌<◌, ap, take, filter, flat_map, sym, subst, []}
use Rattle.std.specs.List.{slice_get}
use Rattle.closure_plan.specs.Given.{gives, deps_of, deps_if, passed}
use Rattle.closure_plan.specs.Fresh.{Grows}
use Rattle.closure_plan.specs.Plan.{Planned}
use Rattle.closure_plan.proofs.FreshLemmas.{grows_both, rows_on}
use Rattle.closure_plan.proofs.plan.Plan.names_of_rows.Goals as goal

pub loop-i-preserved : goal.loop-i-preserved
loop-i-preserved g c =
    let names = c.args.self.now.known.names in
    let rows = c.args.shard.now.rows in
    let p = gives c.args.self.now.known.request c.args.slot c.args.name.now rows in
    let more : Grows names c.loop-i.fresh c.add_row.new.fresh (deps_if (passed p (slice_get rows c.loop-i.i)))
    = subst (λ o. Grows names c.loop-i.fresh c.add_row.new.fresh (deps_if o)) (c.given-row.ensures ∙ ap (λ r. passed (gives r c.args.slot c.args.name.now rows) (slice_get rows c.loop-i.i)) (ap (λ (v : Planned _ _). v.known.request) c.self.view_is)) c.in_ok-before.ensures.grows in (
      subst (Grows names [] c.add_row.new.fresh)
          (sym (rows_on p rows c.loop-i.i (subst (λ n. c.loop-i.i < n) c.len-i-end.ensures c.loop-i-test.true)))
          (grows_both names [] c.loop-i.fresh c.add_row.new.fresh (flat_map deps_of (filter p (take c.loop-i.i rows))) (deps_if (passed p (slice_get rows c.loop-i.i))) c.loop-i.invariant.0 more),
      c.in_ok-before.ensures.there,
    )
