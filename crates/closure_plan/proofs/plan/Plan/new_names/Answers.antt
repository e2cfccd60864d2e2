use Rattle.std.proofs.Common.{[], flat_map, filter}
use Rattle.closure_plan.specs.Given.{deps_of, gives}
use Rattle.closure_plan.proofs.FreshLemmas.{given_rows, grows_turned}
use Rattle.closure_plan.proofs.plan.Plan.new_names.Goals as goal

pub returns : goal.returns
returns g c =
    let r = c.args.self.now.known.request in
    let rows = c.args.shard.now.rows in
    rw (given_rows r c.args.slot c.args.name.now rows)
    (grows_turned c.args.self.now.known.names [] c.in_ok-names.names c.into_names.result.items (flat_map deps_of (filter (gives r c.args.slot c.args.name.now rows) rows)) c.in_ok-names.ensures c.into_names.ensures)
