use Rattle.std.proofs.Common.{◌≡◌, ◌∙◌, ap, List, ℕ}
use Rattle.std.specs.Prelude.{is_ok}
use Rattle.closure_plan.specs.Names.{has_name}
use Rattle.closure_plan.proofs.listing.Listing.has.Goals as goal

pub returns : goal.returns
returns c =
    let names : List (List ℕ) = c.self.inside.names.items in
    let all = rw (c.deref.ensures.value, c.deref-2.ensures.value, c.as_bytes.ensures.value) at c.search.ensures.is in
    let found : is_ok c.search.result ≡ has_name names c.args.name.now = all names c.self.invariant in
    c.is_ok.ensures.value ∙ found ∙ ap (λ (ns : List (List ℕ)). has_name ns c.args.name.now) c.self.view_is
