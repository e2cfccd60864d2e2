use Rattle.std.proofs.Common.{◌≡◌, Some, arith, rules}
use Rattle.std.specs.List.{slice_get}
use Rattle.std.specs.String.{string_bytes}
use Rattle.std.proofs.lemmas.Grind.{text_groups}
use Rattle.channel_indexer.specs.Groups.{name_in}
use Rattle.channel_indexer.proofs.GroupLemmas.{run-under, run-some}
use Rattle.channel_indexer.proofs.groups.add_run.Goals as goal

pub returns-clause-adds : goal.returns-clause-adds
returns-clause-adds c =
    let at : slice_get c.args.run.now.items 0 ≡ Some c.in-Some.first.now = search rules in
    let key : string_bytes c.in_ok-name.name ≡ name_in c.in-Some.first.now = search rules in
    let some = run-some c.args.run.now.items c.in-Some.first.now at in
    record {
      each = λ name. grind (arith, text_groups, run-under name c.args.run.now.items c.in-Some.first.now (string_bytes c.in_ok-name.name) c.requires.run at key);
      ordered = search rules;
      some = λ name. grind (arith, text_groups, c.requires.some name, some);
    }
