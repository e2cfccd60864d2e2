use Rattle.std.proofs.Common.{rules, ◌≡◌, sym, ◌∙◌, ap, subst, ℕ, ◌+◌, ◌-◌, List, [], ◌∷◌, ◌++◌}
use Rattle.std.specs.Prelude.{Err}
use Rattle.std.proofs.lemmas.Result.{err_from_is_err_and}
use Rattle.mp_codec.specs.declared.fault.FormatFault.{FormatFault}
use Rattle.shard_index.specs.Index.{Listed}
use Rattle.shard_index.specs.Names.{has_name}
use Rattle.shard_index.specs.Reading.{is_listed, AreDistinct, listed_after}
use Rattle.shard_index.proofs.RefusalLemmas.{fault_along}
use Rattle.shard_index.proofs.NamesLoop.{entry, name_goes_on, name_stops, digest_stops, names_done, is_listed_more, distinct_none, distinct_more}
use Rattle.shard_index.proofs.listing.names_and_digests.Goals as goal

pub returns-in_err-name : goal.returns-in_err-name
returns-in_err-name c =
    let p = err_from_is_err_and c.from_residual.result c.from_residual.ensures.1 in
    rw (p.1, p.2) (fault_along c.in_err-name.field-0.0 _ (λ (f : FormatFault). listed_after c.args.count [] c.args.cur.now ≡ Err f)
    (λ f e. sym c.loop.invariant.0 ∙ name_stops (has_name c.loop.names) c.loop.entries.items c.loop.invariant.1 c.args.count c.loop.counter f c.loop.cur c.loop-test.true e)
    c.in_err-name.ensures.exact)

pub loop-init : goal.loop-init
loop-init c = (search rules, search rules, subst (λ (xs : List Listed). AreDistinct xs) (sym c.new-entries.ensures.items) distinct_none)

pub returns-in_err-digest : goal.returns-in_err-digest
returns-in_err-digest c =
    let p = err_from_is_err_and c.from_residual-in_err-digest.result c.from_residual-in_err-digest.ensures.1 in
    rw (p.1, p.2) (sym c.loop.invariant.0 ∙ digest_stops (has_name c.loop.names) c.loop.entries.items c.loop.invariant.1 c.args.count c.loop.counter c.in_ok-name.name.now _ c.loop.cur c.new_name.new.cur
    c.loop-test.true c.in_ok-name.ensures.exact c.in_err-digest.ensures)

pub loop-preserved : goal.loop-preserved
loop-preserved c =
    let name : List ℕ = c.in_ok-name.name.now in
    let added : Listed = entry name c.in_ok-digest.field-0 in
    let pushed : c.push.new.self.items ≡ c.loop.entries.items ++ added ∷ [] =
    c.in_ok-push.ensures.items ∙ ap (λ (name : List ℕ). c.loop.entries.items ++ entry name c.in_ok-digest.field-0 ∷ []) c.in_ok-copy.ensures in (
      ap (λ (xs : List Listed). listed_after (c.args.count - (c.loop.counter + 1)) xs c.digest.new.cur) pushed
          ∙ sym (name_goes_on (has_name c.loop.names) c.loop.entries.items c.loop.invariant.1 c.args.count c.loop.counter name c.in_ok-digest.field-0 c.loop.cur c.new_name.new.cur c.digest.new.cur
          c.loop-test.true c.in_ok-name.ensures.exact c.in_ok-digest.ensures)
          ∙ c.loop.invariant.0,
      λ q. c.in_ok-name.ensures.more q ∙ is_listed_more c.loop.entries.items added (has_name c.loop.names q) q (c.loop.invariant.1 q) ∙ ap (λ (xs : List Listed). is_listed q xs) (sym pushed),
      subst (λ (xs : List Listed). AreDistinct xs) (sym pushed) (distinct_more c.loop.entries.items added c.loop.invariant.2 (sym (c.loop.invariant.1 name) ∙ c.in_ok-name.ensures.new)),
    )

pub returns : goal.returns
returns c = sym c.loop.invariant.0 ∙ names_done c.args.count c.loop.counter c.loop.entries.items c.loop.cur c.loop-test.false
