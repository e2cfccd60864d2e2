use Rattle.std.proofs.Common.{◌∙◌, sym, ap, arith}
use Rattle.mp_codec.specs.Format.{head_at}
use Rattle.mp_codec.proofs.StrLemmas.{number_read}
use Rattle.mp_codec.proofs.cursor.Cursor.unsigned.Goals as goal

pub returns-clause-exact : goal.returns-clause-exact
returns-clause-exact c = number_read c.in_ok-number.number c.in_ok-number.len c.args.self.now (omega arith) (ap head_at (sym c.rest.ensures) ∙ c.in_ok-number.ensures.exact)
