use Rattle.std.proofs.Common.{rules, ◌∙◌, ap, List, map}
use Rattle.std.specs.List.{filter}
use Rattle.std.specs.List.Sorted.{ties, IsStableBy}
use Rattle.std.specs.Str.{bytes_eq}
use Rattle.std.proofs.lemmas.List.Sorted.{answers_always, IsPermutation-map}
use Rattle.std.proofs.lemmas.Map.Keys.{IsDistinct-IsPermutation}
use Rattle.std.proofs.lemmas.Result.{on_ok_weaker}
use Rattle.mp_codec.proofs.SortingLemmas.{is_sorted_by}
use Rattle.shard_index.specs.Index.{Listed, name_lt}
use Rattle.mp_codec.proofs.NameSetLemmas.{bytes_eq-sym}
use Rattle.shard_index.proofs.SortLemmas.{name_order}
use Rattle.shard_index.proofs.listing.Listing.sort.Goals as goal

pub invariant_of-self : goal.invariant_of-self
invariant_of-self c =
    IsDistinct-IsPermutation bytes_eq bytes_eq-sym (map (λ (x : Listed). x.name) c.self.inside.entries.items) (map (λ (x : Listed). x.name) c.sort_by.new.self.items)
    (IsPermutation-map (λ (x : Listed). x.name) c.self.inside.entries.items c.sort_by.new.self.items c.sort_by.ensures.permutation) c.self.invariant

pub returns : goal.returns
returns c =
    let stable : IsStableBy name_lt c.args.self.now c.sort_by.new.self.items = λ x.
    c.sort_by.ensures.stable name_lt name_order (answers_always _ _ _ (λ f a r f' k. search rules)) x
    ∙ ap (λ (xs : List Listed). filter (ties name_lt x) xs) c.self.view_is in
    on_ok_weaker c.sort_by.result
    (λ h. is_sorted_by name_lt name_order c.args.self.now c.sort_by.new.self.items (h name_lt name_order (answers_always _ _ _ (λ f a r f' k. search rules))) stable)
    c.sort_by.ensures.sorted
