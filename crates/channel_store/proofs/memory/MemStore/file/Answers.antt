use Rattle.std.proofs.Common.{◌≡◌, Some, None, map, ap, sym, ◌∙◌}
use Rattle.std.specs.Ordering.{nat_cmp}
use Rattle.std.specs.Cmp.Lexicographic.{slice_cmp}
use Rattle.std.specs.BTreeMap.{get_by_text}
use Rattle.std.specs.Option.{option_map, option_copied}
use Rattle.std.specs.FinMap.{find, get}
use Rattle.channel_store.specs.Memory.{first_file}
use Rattle.channel_store.proofs.FilesLemmas.{get-files, or_else, bytes_of}
use Rattle.channel_store.proofs.memory.MemStore.file.Goals as goal

pub returns-in-Some : goal.returns-in-Some
returns-in-Some c =
    let name = c.args.name.now in
    let inside = c.self.inside in
    let found : get_by_text inside.later name ≡ Some c.in-Some.bytes.now = sym c.get.ensures.value ∙ ap option_copied c.in-Some.is in
    let files = get-files inside.later inside.first.items name in
    ap Some c.as_slice.ensures.value
    ∙ sym (ap (λ o. or_else (option_map bytes_of o) (find (slice_cmp nat_cmp) name (map first_file inside.first.items))) found)
    ∙ sym files
    ∙ ap (λ v. get v.files name) c.self.view_is

pub returns-in-None : goal.returns-in-None
returns-in-None c =
    let name = c.args.name.now in
    let inside = c.self.inside in
    let found : get_by_text inside.later name ≡ None = sym c.get.ensures.value ∙ ap option_copied c.in-None.is in
    let files = get-files inside.later inside.first.items name in
    c.first_named.ensures
    ∙ ap (λ l. find (slice_cmp nat_cmp) name (map first_file l)) c.deref.ensures.value
    ∙ sym (ap (λ o. or_else (option_map bytes_of o) (find (slice_cmp nat_cmp) name (map first_file inside.first.items))) found)
    ∙ sym files
    ∙ ap (λ v. get v.files name) c.self.view_is
