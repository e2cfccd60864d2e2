use Rattle.std.proofs.Common.{map, sym, ◌∙◌, arith, rules}
use Rattle.std.proofs.lemmas.List.{length-map}
use Rattle.channel_indexer.specs.Grouped.{group_of}
use Rattle.channel_indexer.specs.Indexing.{SaysGroups}
use Rattle.channel_indexer.proofs.InputLemmas.{rows-named}
use Rattle.channel_indexer.proofs.IndexLemmas.{plan-fails}
use Rattle.channel_indexer.proofs.plan.planned.Goals as goal

pub grouped-requires : goal.grouped-requires
grouped-requires c = c.sort.ensures.named (rows-named c.args.bytes.items c.in_ok-input.input.records.items c.in_ok-input.ensures)

pub returns-in_err-prepare : goal.returns-in_err-prepare
returns-in_err-prepare c =
    let said : SaysGroups c.args.bytes.items c.in_ok-input.input.records.items (map group_of c.in_ok-groups.groups.entries) = record {
      read = c.in_ok-input.ensures;
      rows = c.sort.new.records.items;
      in_order = c.in_ok-sort.ensures.in_order;
      grouped = c.in_ok-groups.ensures;
    } in
    let fails = plan-fails c.args.place.now c.args.bytes.items _ _ said c.in_err-prepare.field-0.0 c.in_err-prepare.ensures in
    search rules

pub returns : goal.returns
returns c = record {
  stood = c.in_ok-input.input.records.items;
  groups = map group_of c.in_ok-groups.groups.entries;
  says = record {
    read = c.in_ok-input.ensures;
    rows = c.sort.new.records.items;
    in_order = c.in_ok-sort.ensures.in_order;
    grouped = c.in_ok-groups.ensures;
  };
  plan = record {
    prepared = c.in_ok-prepare.ensures;
    names = c.len-names.ensures.len ∙ sym (rw length-map);
    files = omega (arith, c.len-files.ensures, c.in_ok-input.input.records.ok);
  };
}
