use Rattle.std.proofs.Common.{◌≡◌, ◌∙◌, ◌++◌, ◌<◌, ◌≤◌, sym, ap, subst, filter, map, length}
use Rattle.std.specs.List.{slice_get}
use Rattle.std.proofs.lemmas.List.{take_all}
use Rattle.closure_plan.specs.Closure.{found}
use Rattle.closure_plan.specs.Given.{LeafRows, gives}
use Rattle.closure_plan.specs.Rows.{Adds, leaf_or_none, place_if}
use Rattle.closure_plan.specs.Plan.{its_leaves}
use Rattle.closure_plan.proofs.RowLemmas.{adds_row}
use Rattle.closure_plan.proofs.FreshLemmas.{given_rows}
use Rattle.closure_plan.proofs.plan.Plan.rows_of_shard.Goals as goal

pub loop-row-preserved : goal.loop-row-preserved
loop-row-preserved g c =
    let r = c.args.self.now.known.request in
    let leaves = its_leaves g.P.PinHolder.contents g.H.LeafHolder.contents c.args.self.now.known in
    let leaf : LeafRows = leaf_or_none leaves c.args.i in
    let p = gives r leaf.slot leaf.name leaf.rows in
    let below : c.loop-row.row < length leaf.rows = subst (λ n. c.loop-row.row < n) (c.len-row-end.ensures ∙ ap length c.requires.rows) c.loop-row-test.true in
    let more : c.add_place.new.rows.items ≡ c.loop-row.rows.items ++ place_if p (slice_get leaf.rows c.loop-row.row) (record { slot = leaf.slot; leaf = c.args.i; row = c.loop-row.row })
    = c.in_ok-add_place.ensures ∙ (λ k. c.loop-row.rows.items ++ place_if (gives r (c.requires.slot k) (c.requires.name k) (c.requires.rows k)) (slice_get (c.requires.rows k) c.loop-row.row) (record { slot = c.requires.slot k; leaf = c.args.i; row = c.loop-row.row })) in
    adds_row r leaves c.args.i p c.args.rows.now.items c.loop-row.rows.items c.add_place.new.rows.items c.loop-row.row below c.loop-row.invariant more

pub returns : goal.returns
returns g c =
    let r = c.args.self.now.known.request in
    let leaves = its_leaves g.P.PinHolder.contents g.H.LeafHolder.contents c.args.self.now.known in
    let leaf : LeafRows = leaf_or_none leaves c.args.i in
    let p = gives r leaf.slot leaf.name leaf.rows in
    let count : length leaf.rows ≤ c.loop-row.row = subst (λ n. n ≤ c.loop-row.row) (c.len-row-end.ensures ∙ ap length c.requires.rows) c.loop-row-test.false in
    subst (Adds r leaves c.args.rows.now.items c.loop-row.rows.items)
    (ap (λ xs. map (found r leaf.slot) (filter p xs)) (take_all c.loop-row.row leaf.rows count) ∙ ap (map (found r leaf.slot)) (sym (given_rows r leaf.slot leaf.name leaf.rows)))
    c.loop-row.invariant
