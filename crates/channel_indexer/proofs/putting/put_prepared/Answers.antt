use Rattle.std.proofs.Common.{List, ap, ◌∙◌}
use Rattle.channel_indexer.specs.Puts.{Put, with_puts}
use Rattle.channel_indexer.proofs.PutLemmas.{stops-last, stops-whole, made-last}
use Rattle.channel_indexer.proofs.putting.put_prepared.Goals as goal

pub returns-in_err-put_last-clause-stop : goal.returns-in_err-put_last-clause-stop
returns-in_err-put_last-clause-stop g c =
    let start = g.S.Store.files c.args.store.now in
    stops-last c.args.prepared.now.shards.items c.args.prepared.now.index start (g.S.Store.files c.put_all.new.store) (g.S.Store.files c.put_last.new.store)
    (c.in_ok-kept.ensures.ok ∙ ap (λ (puts : List Put). with_puts puts start) c.deref.ensures.value) c.in_err-put_last.ensures.stop

pub returns-clause-ok : goal.returns-clause-ok
returns-clause-ok g c =
    let start = g.S.Store.files c.args.store.now in
    made-last c.args.prepared.now.shards.items c.args.prepared.now.index start (g.S.Store.files c.put_all.new.store) (g.S.Store.files c.put_last.new.store)
    (c.in_ok-kept.ensures.ok ∙ ap (λ (puts : List Put). with_puts puts start) c.deref.ensures.value) c.in_ok-put_last.ensures.ok

pub returns-clause-stop : goal.returns-clause-stop
returns-clause-stop g c = stops-whole _ (g.S.Store.files c.args.store.now) (g.S.Store.files c.put_last.new.store) (returns-clause-ok g c)
