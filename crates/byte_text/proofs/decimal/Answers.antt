use Rattle.std.proofs.Common.{refl, arith}
use Rattle.byte_text.proofs.DecimalLemmas.{decimal-over}
use Rattle.byte_text.proofs.decimal.Goals as goal

pub returns-in_default-with_digit : goal.returns-in_default-with_digit
returns-in_default-with_digit c =
    let over = decimal-over c.digits.number c.digits.rest.now c.args.digits.now c.digits.invariant.same (omega arith) c.in_default-with_digit.ensures.none in
    rw over refl
