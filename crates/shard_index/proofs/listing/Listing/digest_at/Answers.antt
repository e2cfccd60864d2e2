use Rattle.std.proofs.Common.{rules, ◌≡◌, sym, ◌∙◌, ap, subst, List, get_or, Some}
use Rattle.std.specs.List.Sorted.{IsSortedBy}
use Rattle.std.proofs.lemmas.Fn.{always_returns_same}
use Rattle.shard_index.specs.Index.{Listed, name_lt, digest_at}
use Rattle.shard_index.specs.Reading.{AreDistinct}
use Rattle.shard_index.proofs.LookupLemmas.{compared, digest_found, digest_absent}
use Rattle.shard_index.proofs.listing.Listing.digest_at.Goals as goal

pub returns-in-Ok : goal.returns-in-Ok
returns-in-Ok c =
    let entry : Listed = c.index.result.now in
    let equal = c.in-Ok.ensures.position (compared c.args.name.now) (always_returns_same _ _ _ (λ a r f k. (search rules, search rules))) in
    let apart : AreDistinct c.deref.result.now = subst (λ (xs : List Listed). AreDistinct xs) (sym c.deref.ensures.value) c.self.invariant in
    let found : digest_at c.args.name.now c.deref.result.now ≡ Some (get_or c.deref.result.now c.in-Ok.at entry).digest =
    digest_found c.deref.result.now c.args.name.now c.in-Ok.at entry apart c.in-Ok.ensures.bound (equal entry) in
    ap (λ (x : Listed). Some x.digest) (c.behind-self.view_is ∙ c.index.ensures ∙ ap (λ (xs : List Listed). get_or xs c.in-Ok.at entry) (sym c.deref.ensures.value))
    ∙ sym found ∙ ap (λ (xs : List Listed). digest_at c.args.name.now xs) (c.deref.ensures.value ∙ c.self.view_is)

pub returns-in-Err : goal.returns-in-Err
returns-in-Err c =
    let same : c.deref.result.now ≡ c.args.self.now = c.deref.ensures.value ∙ c.self.view_is in
    let up : IsSortedBy name_lt c.deref.result.now = subst (λ (xs : List Listed). IsSortedBy name_lt xs) (sym same) c.requires in
    sym (digest_absent c.deref.result.now c.args.name.now c.in-Err.field-0 up
    (c.in-Err.ensures.position (compared c.args.name.now) (always_returns_same _ _ _ (λ a r f k. (search rules, search rules)))))
    ∙ ap (λ (xs : List Listed). digest_at c.args.name.now xs) same
