use Rattle.std.proofs.Common.{sym, ◌∙◌, arith}
use Rattle.conda_version.proofs.FaultLemmas.{narrow-break}
use Rattle.conda_version.proofs.parts.is_wide_part.Goals as goal

pub bytes-preserved : goal.bytes-preserved
bytes-preserved c = record {
  fits = omega arith;
  same = c.bytes.invariant.same ∙ narrow-break c.bytes.value c.bytes.rest.now c.in-len1-up.len_at_least c.bytes.invariant.fits (sym c.is_ascii_digit.ensures.value ∙ c.if-is_ascii_digit.false);
}
