use Rattle.std.proofs.Common.{◌≡◌, ap, sym, ◌∙◌, ℕ, ◌+◌, ◌<◌, arith}
use Rattle.std.specs.Prelude.{slice_index}
use lib.Bits.{bit_and}
use Rattle.mp_codec.proofs.AsciiLemmas.{word, high, low_bytes}
use Rattle.mp_codec.proofs.reading.high_bits.Goals as goal

pub returns : goal.returns
returns c = λ none k lt.
    let byte : ℕ → ℕ = λ j. slice_index c.args.bytes.now j in
    let is : c.from_le_bytes.result ≡ word byte 8 0 = c.from_le_bytes.ensures ∙ omega arith in
    let low : byte (k + 0) < 128 = low_bytes byte (λ j. (c.type_inv.bytes j).fits) 8 0 (ap (λ (n : ℕ). bit_and n (high 8)) (sym is) ∙ none) k lt in
    let same : k + 0 ≡ k = omega arith in
    omega (arith, ap byte same)
