use Rattle.std.proofs.Common.{sym, ap, ◌∙◌}
use Rattle.std.proofs.lemmas.Result.{err_from_is_err_and}
use Rattle.mp_codec.specs.Maps.{text_from}
use Rattle.mp_codec.proofs.ReaderLemmas.{text_found, text_fault}
use Rattle.mp_codec.proofs.StrLemmas.{text_read}
use Rattle.mp_codec.proofs.SpanLemmas.{value_in}
use Rattle.mp_codec.proofs.cursor.Cursor.text.Goals as goal

pub returns-clause-exact : goal.returns-clause-exact
returns-clause-exact c =
    let text = c.in-Some-utf8_text.ensures in
    rw (text.1, c.pass.ensures) (text_read c.in-Some.bytes.now c.args.self.now _ c.in-Some.ensures.exact text.0)

pub returns-clause-found : goal.returns-clause-found
returns-clause-found c =
    let text = c.in-Some-utf8_text.ensures in
    rw (text.1, c.pass.ensures) (text_found c.args.self.now _ c.in-Some.bytes.now (text_read c.in-Some.bytes.now c.args.self.now _ c.in-Some.ensures.exact text.0))

pub returns-clause-within : goal.returns-clause-within
returns-clause-within c = λ bytes i.
    let text = c.in-Some-utf8_text.ensures in
    rw c.pass.ensures (value_in bytes _ _ c.args.self.now _ i (text_found c.args.self.now _ c.in-Some.bytes.now (text_read c.in-Some.bytes.now c.args.self.now _ c.in-Some.ensures.exact text.0)))

pub returns-in_err-text-clause-fault : goal.returns-in_err-text-clause-fault
returns-in_err-text-clause-fault c =
    let p = err_from_is_err_and c.from_residual.result c.from_residual.ensures.1 in
    rw (p.1, p.2) (text_fault c.args.self.now _ (ap text_from (sym c.copy-ahead.ensures.same) ∙ c.in_err-text.ensures))

pub returns-2-clause-found : goal.returns-2-clause-found
returns-2-clause-found c = text_found c.args.self.now c.text_ahead.new.cursor c.in_ok-text.text.now (ap text_from (sym c.copy-ahead.ensures.same) ∙ c.in_ok-text.ensures)

pub returns-2-clause-within : goal.returns-2-clause-within
returns-2-clause-within c = λ bytes i. value_in bytes _ _ c.args.self.now c.text_ahead.new.cursor i (text_found c.args.self.now c.text_ahead.new.cursor c.in_ok-text.text.now (ap text_from (sym c.copy-ahead.ensures.same) ∙ c.in_ok-text.ensures))
