use Rattle.std.proofs.Common.{sym, ap, ◌∙◌}
use Rattle.std.specs.Prelude.{Some, Ok}
use Rattle.gateway_words.specs.Places.{Position}
use Rattle.std.proofs.lemmas.Result.{err_from_is_err_and}
use Rattle.mp_codec.specs.Maps.{number_from}
use Rattle.mp_codec.proofs.ReaderLemmas.{number_found, number_fault}
use Rattle.mp_codec.proofs.SpanLemmas.{value_in}
use Rattle.mp_codec.proofs.cursor.Cursor.number_or_skip.Goals as goal

pub returns-in_err-number-clause-fault : goal.returns-in_err-number-clause-fault
returns-in_err-number-clause-fault c =
    let p = err_from_is_err_and c.from_residual.result c.from_residual.ensures.1 in
    rw (p.1, p.2) (number_fault c.args.self.now _ (ap number_from (sym c.copy-ahead.ensures.same) ∙ c.in_err-number.ensures))

pub returns-clause-found : goal.returns-clause-found
returns-clause-found c = number_found c.args.self.now c.number_or_skip_ahead.new.cursor c.in_ok-number.number (ap number_from (sym c.copy-ahead.ensures.same) ∙ c.in_ok-number.ensures)

pub returns-clause-within : goal.returns-clause-within
returns-clause-within c = λ bytes i. value_in bytes _ _ c.args.self.now c.number_or_skip_ahead.new.cursor i (number_found c.args.self.now c.number_or_skip_ahead.new.cursor c.in_ok-number.number (ap number_from (sym c.copy-ahead.ensures.same) ∙ c.in_ok-number.ensures))

pub returns-in-Some-clause-found : goal.returns-in-Some-clause-found
returns-in-Some-clause-found c = number_found c.args.self.now c.pass.new.self (Some c.in-Some.number) (c.in-Some.ensures.exact ∙ ap (λ (p : Position). Ok (Some c.in-Some.number, p)) (sym c.pass.ensures))
