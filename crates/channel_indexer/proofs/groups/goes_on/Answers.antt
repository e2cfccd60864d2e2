use Rattle.std.proofs.Common.{◌≡◌, Some, rules}
use Rattle.std.specs.List.{slice_get}
use Rattle.channel_indexer.specs.Groups.{name_in}
use Rattle.channel_indexer.proofs.GroupLemmas.{run-on}
use Rattle.channel_indexer.proofs.groups.goes_on.Goals as goal

pub returns-in-Some : goal.returns-in-Some
returns-in-Some c same =
    let at : slice_get c.args.run.now 0 ≡ Some c.in-Some.first.now = search rules in
    let name : name_in c.in-Some.first.now ≡ name_in c.args.record.now = search rules in
    run-on c.args.run.now c.in-Some.first.now c.args.record.now c.requires at name
