use Rattle.std.proofs.Common.{◌≡◌, Some, ◌∙◌, rules}
use Rattle.std.specs.String.{string_bytes}
use Rattle.std.specs.FinMap.{insert}
use Rattle.std.proofs.lemmas.Map.Text.{btree_map_updates_text}
use Rattle.channel_store.proofs.FilesLemmas.{files-put}
use Rattle.channel_store.proofs.memory.MemStoreStore.put.Goals as goal

pub returns-clause-ok : goal.returns-clause-ok
returns-clause-ok c =
    let was = c.self.view_is ∙ c.count_call.ensures.after in
    let inside = c.self.inside in
    let bytes : c.in_ok-bytes.bytes.items ≡ c.args.bytes.now = search rules in
    let put = files-put inside.later c.insert.new.self inside.first.items (string_bytes c.in_ok-name.name) c.in_ok-bytes.bytes
    (btree_map_updates_text (string_bytes c.in_ok-name.name) inside.later c.insert.new.self (Some c.in_ok-bytes.bytes) c.in_ok-insert.ensures.updates) in
    let files = put ∙ (λ i. insert ((was i).files) (c.in_ok-name.ensures.ok i) (bytes i)) in
    λ i. record {
      files = files i;
      fails = (was i).fails;
      fails_from = (was i).fails_from;
      calls = (was i).calls;
      faults = (was i).faults;
    }
