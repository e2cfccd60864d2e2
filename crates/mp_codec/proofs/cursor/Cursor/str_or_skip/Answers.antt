use Rattle.std.proofs.Common.{sym, ap, ◌∙◌}
use Rattle.std.specs.Prelude.{Some}
use Rattle.std.proofs.lemmas.Result.{err_from_is_err_and}
use Rattle.mp_codec.specs.Maps.{bytes_behind, str_from}
use Rattle.mp_codec.proofs.ReaderLemmas.{str_found, str_fault}
use Rattle.mp_codec.proofs.StrLemmas.{str_read}
use Rattle.mp_codec.proofs.SpanLemmas.{value_in}
use Rattle.mp_codec.proofs.cursor.Cursor.str_or_skip.Goals as goal

pub returns-in-Some-clause-found : goal.returns-in-Some-clause-found
returns-in-Some-clause-found c = rw c.pass.ensures (str_found c.args.self.now _ (Some c.in-Some.bytes.now) (str_read c.in-Some.bytes.now c.args.self.now _ c.in-Some.ensures.exact))

pub returns-in-Some-clause-within : goal.returns-in-Some-clause-within
returns-in-Some-clause-within c = λ bytes i. rw c.pass.ensures (value_in bytes _ _ c.args.self.now _ i (str_found c.args.self.now _ (Some c.in-Some.bytes.now) (str_read c.in-Some.bytes.now c.args.self.now _ c.in-Some.ensures.exact)))

pub returns-in-Some-clause-exact : goal.returns-in-Some-clause-exact
returns-in-Some-clause-exact c = rw c.pass.ensures (str_read c.in-Some.bytes.now c.args.self.now _ c.in-Some.ensures.exact)

pub returns-in_err-bytes-clause-fault : goal.returns-in_err-bytes-clause-fault
returns-in_err-bytes-clause-fault c =
    let p = err_from_is_err_and c.from_residual.result c.from_residual.ensures.1 in
    rw (p.1, p.2) (str_fault c.args.self.now _ (ap str_from (sym c.copy-ahead.ensures.same) ∙ c.in_err-bytes.ensures))

pub returns-clause-found : goal.returns-clause-found
returns-clause-found c = str_found c.args.self.now c.str_or_skip_ahead.new.cursor (bytes_behind c.in_ok-bytes.bytes) (ap str_from (sym c.copy-ahead.ensures.same) ∙ c.in_ok-bytes.ensures)

pub returns-clause-within : goal.returns-clause-within
returns-clause-within c = λ bytes i. value_in bytes _ _ c.args.self.now c.str_or_skip_ahead.new.cursor i (str_found c.args.self.now c.str_or_skip_ahead.new.cursor (bytes_behind c.in_ok-bytes.bytes) (ap str_from (sym c.copy-ahead.ensures.same) ∙ c.in_ok-bytes.ensures))
