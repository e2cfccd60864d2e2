use Rattle.std.proofs.Common.{◌≡◌, IfSome, subst, ◌∙◌}
use Rattle.channel_store.specs.declared.store.Got.{Got}
use Rattle.channel_store.specs.Store.{found, found_in}
use Rattle.channel_indexer.proofs.IndexLemmas.{absent-is, long-is}
use Rattle.channel_indexer.proofs.index.input.Goals as goal

pub returns-in-Ok-Absent-clause-gives : goal.returns-in-Ok-Absent-clause-gives
returns-in-Ok-Absent-clause-gives g c =
    let old = g.S.Store.files c.args.store.now in
    let asked = c.as_str.result.now in
    let got = subst (λ (got : Got). IfSome old (λ told. found got ≡ found_in told asked 536870912)) c.in-Ok-Absent.field-0-is c.in-Ok-Absent.ensures.ok in
    absent-is old c.args.place.now asked 536870912 (c.as_str.ensures ∙ c.in_ok-name.ensures.name) got

pub returns-in-Ok-Long-clause-gives : goal.returns-in-Ok-Long-clause-gives
returns-in-Ok-Long-clause-gives g c =
    let old = g.S.Store.files c.args.store.now in
    let asked = c.as_str.result.now in
    let got = subst (λ (got : Got). IfSome old (λ told. found got ≡ found_in told asked 536870912)) c.in-Ok-Long.field-0-is c.in-Ok-Long.ensures.ok in
    long-is old c.args.place.now asked (c.as_str.ensures ∙ c.in_ok-name.ensures.name) got
