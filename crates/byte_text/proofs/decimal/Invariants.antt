use Rattle.std.proofs.Common.{◌≡◌, ◌<◌, ◌^◌, length}
use Rattle.byte_text.specs.Decimal.{decimal_from}
use Rattle.byte_text.proofs.decimal.Given as goal

abbrev pub invariant-digits : goal.invariant-digits
invariant-digits l = record {
  same : decimal_from l.number l.rest ≡ decimal_from 0 l.digits;
  fits : l.number < 2 ^ 64;
}

abbrev pub decreases-digits : goal.decreases-digits
decreases-digits l = length l.rest
