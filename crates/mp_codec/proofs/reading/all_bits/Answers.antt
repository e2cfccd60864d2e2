use Rattle.std.proofs.Common.{◌≡◌, ap, ℕ, inl, inr, length, get_or, arith}
use Rattle.std.specs.Prelude.{slice_index}
use Rattle.std.proofs.lemmas.Bool.{cases_lt}
use Rattle.std.proofs.lemmas.List.{get_or_past}
use Rattle.std.proofs.lemmas.Nat.{le_or_l, le_or_r}
use Rattle.mp_codec.proofs.reading.all_bits.Goals as goal

pub loop-byte-preserved : goal.loop-byte-preserved
loop-byte-preserved c = λ k below.
    let byte : ℕ = get_or c.args.bytes.now c.loop-byte.byte-index 0 in
    elim (cases_lt k c.loop-byte.byte-index) [
      | inl lt ↦ omega (arith, c.loop-byte.invariant k lt, le_or_l c.loop-byte.bits byte)
      | inr ge ↦
          let is : k ≡ c.loop-byte.byte-index = omega arith in
          let same : slice_index c.args.bytes.now k ≡ byte = ap (λ (m : ℕ). get_or c.args.bytes.now m 0) is in
          omega (arith, le_or_r c.loop-byte.bits byte)
    ]

pub returns : goal.returns
returns c = λ small i. elim (cases_lt i (length c.args.bytes.now)) [
  | inl lt ↦ omega (arith, c.loop-byte.invariant i (omega (arith, c.loop-byte-test.false)))
  | inr ge ↦ let none : slice_index c.args.bytes.now i ≡ 0 = get_or_past c.args.bytes.now i 0 ge in omega arith
]
