use Rattle.std.proofs.Common.{◌≡◌, None, ◌∙◌, rules}
use Rattle.std.specs.FinMap.{remove}
use Rattle.std.specs.List.{filter}
use Rattle.std.proofs.lemmas.Fn.{filter_same}
use Rattle.std.proofs.lemmas.Map.Text.{btree_map_updates_text}
use Rattle.channel_store.proofs.FilesLemmas.{files-removed, is_other}
use Rattle.channel_store.proofs.memory.MemStoreStore.remove.Goals as goal

pub returns-clause-ok : goal.returns-clause-ok
returns-clause-ok c =
    let was = c.self.view_is ∙ c.count_call.ensures.after in
    let inside = c.self.inside in
    let name = c.args.name.now in
    let left : c.retain.new.self.items ≡ filter (is_other name) inside.first.items = filter_same _ _ _ (λ x b f' k. search rules) _ _ c.retain.ensures.filtered in
    let taken = files-removed inside.later c.remove.new.self inside.first.items c.retain.new.self.items name
    (btree_map_updates_text name inside.later c.remove.new.self None c.remove.ensures.updates) left in
    let files = taken ∙ (λ i. remove ((was i).files) name) in
    λ i. record {
      files = files i;
      fails = (was i).fails;
      fails_from = (was i).fails_from;
      calls = (was i).calls;
      faults = (was i).faults;
    }
