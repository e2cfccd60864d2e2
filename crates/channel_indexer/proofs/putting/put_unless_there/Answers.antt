use Rattle.std.proofs.Common.{◌≡◌, IfSome, subst, ap, sym, ◌∙◌}
use Rattle.std.proofs.lemmas.Slice.Eq.{bytes_eq-Decides}
use Rattle.channel_store.specs.declared.store.Got.{Got}
use Rattle.channel_store.specs.Store.{found, found_in, with_file}
use Rattle.channel_indexer.specs.Puts.{Put}
use Rattle.channel_indexer.proofs.PutLemmas.{there-unchanged}
use Rattle.channel_indexer.proofs.putting.put_unless_there.Goals as goal

pub returns-then-eq-clause-ok : goal.returns-then-eq-clause-ok
returns-then-eq-clause-ok g c =
    let old = g.S.Store.files c.args.store.now in
    let asked = c.as_str-name.result.now in
    let got = subst (λ (got : Got). IfSome old (λ told. found got ≡ found_in told asked c.len.result)) c.in-Bytes.is c.in_ok-there.ensures.ok in
    let equal : c.in-Bytes.there.items ≡ c.put.inside.bytes.items = (bytes_eq-Decides _ _).0 (sym c.eq.ensures ∙ c.if-eq.true) in
    let name : asked ≡ c.args.put.now.name = c.as_str-name.ensures ∙ ap (λ (p : Put). p.name) c.put.view_is in
    let bytes : c.put.inside.bytes.items ≡ c.args.put.now.bytes = ap (λ (p : Put). p.bytes) c.put.view_is in
    there-unchanged old (g.S.Store.files c.get.new.self) asked c.put.inside.bytes.items c.in-Bytes.there.items c.len.result c.get.ensures.same got equal
    ∙ (λ i. with_file (name i) (bytes i) old)
