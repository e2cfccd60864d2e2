use Rattle.std.proofs.Common.{◌≡◌, sym, ◌∙◌}
use Rattle.std.specs.Prelude.{Err}
use Rattle.std.proofs.lemmas.Result.{err_from_is_err_and}
use Rattle.mp_codec.specs.declared.fault.FormatFault.{FormatFault}
use Rattle.mp_codec.specs.Maps.{unread, known_key_from, known_value_from}
use Rattle.mp_codec.proofs.EntryLemmas.{goes_on, key_stops, value_stops, is_done}
use Rattle.conda_record.proofs.RefusalLemmas.{fault_along}
use Rattle.shard_file.specs.Rows.{shard_keys}
use Rattle.shard_file.specs.Found.{known, place}
use Rattle.shard_file.specs.Reading.{member_from, shard_end_from, pairs_from}
use Rattle.shard_file.proofs.reading.pairs_of_shard.Goals as goal

pub returns-in_err-key-clause-exact : goal.returns-in_err-key-clause-exact
returns-in_err-key-clause-exact g c =
    let p = err_from_is_err_and c.from_residual.result c.from_residual.ensures.1 in
    rw (p.1, p.2) (sym c.loop.invariant.0 ∙ key_stops (known_key_from shard_keys) (known_value_from shard_keys member_from) shard_end_from c.args.pairs c.loop.counter (known g.bytes c.loop.found) _ c.loop.cur c.loop-test.true c.in_err-key.ensures.exact)

pub returns-in_err-read_value-clause-exact : goal.returns-in_err-read_value-clause-exact
returns-in_err-read_value-clause-exact g c =
    let p = err_from_is_err_and c.from_residual-in_err-read_value.result c.from_residual-in_err-read_value.ensures.1 in
    rw (p.1, p.2) (fault_along c.in_err-read_value.field-0.0 _ (λ (f : FormatFault). pairs_from c.args.pairs (unread shard_keys) c.args.cur.now ≡ Err f)
    (λ f e. sym c.loop.invariant.0 ∙ value_stops (known_key_from shard_keys) (known_value_from shard_keys member_from) shard_end_from c.args.pairs c.loop.counter (known g.bytes c.loop.found) (place c.in_ok-key.key) f c.loop.cur c.next_key.new.cur c.loop-test.true c.in_ok-key.ensures.exact e)
    c.in_err-read_value.ensures.exact)

pub loop-preserved : goal.loop-preserved
loop-preserved g c = (
  sym (goes_on (known_key_from shard_keys) (known_value_from shard_keys member_from) shard_end_from c.args.pairs c.loop.counter (known g.bytes c.loop.found) (known g.bytes c.read_value.new.self) (place c.in_ok-key.key)
      c.loop.cur c.next_key.new.cur c.read_value.new.cur c.loop-test.true c.in_ok-key.ensures.exact c.in_ok-read_value.ensures.exact)
      ∙ c.loop.invariant.0,
  c.in_ok-read_value.ensures.within,
  c.in_ok-read_value.ensures.named,
)

pub returns-in_err-finish-clause-exact : goal.returns-in_err-finish-clause-exact
returns-in_err-finish-clause-exact g c =
    let p = err_from_is_err_and c.from_residual-in_err-finish.result c.from_residual-in_err-finish.ensures.1 in
    rw (p.1, p.2) (fault_along c.in_err-finish.field-0.0 _ (λ (f : FormatFault). pairs_from c.args.pairs (unread shard_keys) c.args.cur.now ≡ Err f)
    (λ f e. sym c.loop.invariant.0 ∙ is_done (known_key_from shard_keys) (known_value_from shard_keys member_from) shard_end_from c.args.pairs c.loop.counter (known g.bytes c.loop.found) c.loop.cur c.loop-test.false ∙ e)
    c.in_err-finish.ensures.exact)

pub returns-clause-exact : goal.returns-clause-exact
returns-clause-exact g c = sym c.loop.invariant.0 ∙ is_done (known_key_from shard_keys) (known_value_from shard_keys member_from) shard_end_from c.args.pairs c.loop.counter (known g.bytes c.loop.found) c.loop.cur c.loop-test.false ∙ c.in_ok-finish.ensures.exact
