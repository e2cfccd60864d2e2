use Rattle.std.proofs.Common.{◌≡◌, sym, ◌∙◌}
use Rattle.std.specs.Prelude.{Err}
use Rattle.std.proofs.lemmas.Result.{err_from_is_err_and}
use Rattle.mp_codec.specs.declared.fault.FormatFault.{FormatFault}
use Rattle.mp_codec.specs.Maps.{unread, known_key_from, known_value_from}
use Rattle.mp_codec.proofs.EntryLemmas.{goes_on, key_stops, value_stops, is_done}
use Rattle.conda_record.specs.Record.{record_keys}
use Rattle.conda_record.specs.Placing.{place_from, places_end_from, place_pairs_from}
use Rattle.conda_record.specs.Found.{known, place}
use Rattle.conda_record.proofs.RefusalLemmas.{fault_along}
use Rattle.conda_record.proofs.reading.Found.read_pairs.Goals as goal

pub returns-in_err-key : goal.returns-in_err-key
returns-in_err-key c =
    let p = err_from_is_err_and c.from_residual.result c.from_residual.ensures.1 in
    rw (p.1, p.2) (sym c.loop.invariant ∙ key_stops (known_key_from record_keys) (known_value_from record_keys place_from) places_end_from c.args.pairs c.loop.counter (known c.loop.self) _ c.loop.cur c.loop-test.true c.in_err-key.ensures)

pub returns-in_err-read_value : goal.returns-in_err-read_value
returns-in_err-read_value c =
    let p = err_from_is_err_and c.from_residual-in_err-read_value.result c.from_residual-in_err-read_value.ensures.1 in
    rw (p.1, p.2) (fault_along c.in_err-read_value.field-0.0 _ (λ (f : FormatFault). place_pairs_from c.args.pairs (unread record_keys) c.args.cur.now ≡ Err f)
    (λ f e. sym c.loop.invariant ∙ value_stops (known_key_from record_keys) (known_value_from record_keys place_from) places_end_from c.args.pairs c.loop.counter (known c.loop.self) (place c.in_ok-key.key) f c.loop.cur c.next_key.new.cur c.loop-test.true c.in_ok-key.ensures e)
    c.in_err-read_value.ensures)

pub loop-preserved : goal.loop-preserved
loop-preserved c =
    sym (goes_on (known_key_from record_keys) (known_value_from record_keys place_from) places_end_from c.args.pairs c.loop.counter (known c.loop.self) (known c.read_value.new.self) (place c.in_ok-key.key)
    c.loop.cur c.next_key.new.cur c.read_value.new.cur c.loop-test.true c.in_ok-key.ensures c.in_ok-read_value.ensures)
    ∙ c.loop.invariant

pub returns : goal.returns
returns c = rw (sym c.loop.invariant ∙ is_done (known_key_from record_keys) (known_value_from record_keys place_from) places_end_from c.args.pairs c.loop.counter (known c.loop.self) c.loop.cur c.loop-test.false) c.finish.ensures
