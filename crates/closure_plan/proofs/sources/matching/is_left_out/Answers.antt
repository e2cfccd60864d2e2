use Rattle.std.proofs.Common.{◌∙◌, ap}
use Rattle.std.specs.Prelude.{is_some}
use Rattle.shard_file.specs.Seen.{row_seen}
use Rattle.closure_plan.proofs.TwinLemmas.{twin_left}
use Rattle.closure_plan.proofs.sources.matching.is_left_out.Goals as goal

pub returns : goal.returns
returns c =
    c.is_some.ensures ∙ ap is_some c.twin.ensures
    ∙ twin_left c.args.name.now c.args.shard.now.rows c.args.i (row_seen c.args.row) c.requires.row c.requires.name
