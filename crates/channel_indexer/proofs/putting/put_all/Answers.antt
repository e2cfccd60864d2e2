use Rattle.std.proofs.Common.{◌≡◌, Bool, cond, ◌+◌, IfSome, Option, subst, ap, sym, ◌∙◌, arith}
use Rattle.channel_store.specs.Store.{Files}
use Rattle.channel_indexer.specs.Puts.{stands_in}
use Rattle.channel_indexer.proofs.PutLemmas.{puts-on, stops-on, count-on}
use Rattle.channel_indexer.proofs.putting.put_all.Goals as goal
use Rattle.channel_indexer.proofs.putting.put_all.Goals.{then-branch, else-branch}

pub returns-in_err-put_unless_there-clause-stop : goal.returns-in_err-put_unless_there-clause-stop
returns-in_err-put_unless_there-clause-stop g c =
    stops-on c.args.puts.now c.loop-put.put-index c.put-item.result (g.S.Store.files c.args.store.now) _ _ c.loop-put-test.true c.put-item.is
    c.loop-put.invariant.files c.in_err-put_unless_there.ensures.stop

pub loop-put-preserved : goal.loop-put-preserved
loop-put-preserved g c =
    let puts = c.args.puts.now in
    let at = c.loop-put.put-index in
    let put = c.put-item.result in
    let start = g.S.Store.files c.args.store.now in
    let there = c.in_ok-put_unless_there.field-0 in
    let kept = c.loop-put.kept in
    let made = c.in_ok-put_unless_there.ensures.ok ∙ ap (λ (files : Option Files). Rattle.channel_store.specs.Store.with_file put.name put.bytes files) c.loop-put.invariant.files in
    let now = subst (λ (files : Option Files). IfSome files (λ told. there ≡ stands_in told put)) c.loop-put.invariant.files c.in_ok-put_unless_there.ensures.there in
    let counted = count-on start puts at put kept there c.loop-put-test.true c.put-item.is c.loop-put.invariant.counted now in
    let is : c.if-branch.kept ≡ cond there (kept + 1) kept = elim c.if-branch.branch [
      | then-branch w ↦ w.kept-is ∙ sym (ap (λ (b : Bool). cond b (kept + 1) kept) w.if-branch.true)
      | else-branch w ↦ w.kept-is ∙ sym (ap (λ (b : Bool). cond b (kept + 1) kept) w.if-branch.false)
    ] in
    record {
      files = puts-on puts at put start (g.S.Store.files c.put_unless_there.new.store) c.loop-put-test.true c.put-item.is made;
      few = elim c.if-branch.branch [ then-branch w ↦ omega (arith, w.kept-is) | else-branch w ↦ omega (arith, w.kept-is) ];
      counted = rw is counted;
      later = omega (arith, c.put_unless_there.ensures.later);
    }
