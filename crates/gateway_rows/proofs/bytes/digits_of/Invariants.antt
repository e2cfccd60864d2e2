use Rattle.std.proofs.Common.{◌≡◌, take}
use Rattle.gateway_rows.specs.Bytes.{digits_of}
use Rattle.gateway_rows.proofs.bytes.digits_of.Given as goal

abbrev pub invariant-loop-byte : goal.invariant-loop-byte
invariant-loop-byte l = l.digits.items ≡ digits_of (take l.byte-index l.byte-items)
