use Rattle.std.proofs.Common.{◌≡◌, ◌-◌, length, inl, inr, arith, eqb-true}
use Rattle.std.specs.Prelude.{slice_index}
use Rattle.std.proofs.lemmas.Bool.{cases_lt}
use Rattle.std.proofs.lemmas.List.{get_or_past}
use Rattle.mp_codec.proofs.AsciiLemmas.{low_from}
use Rattle.mp_codec.proofs.reading.is_ascii.Goals as goal

pub loop-at-preserved : goal.loop-at-preserved
loop-at-preserved c = λ i lt. elim (cases_lt i c.loop-at.at) [
  | inl before ↦ c.loop-at.invariant i before
  | inr from ↦ low_from c.args.bytes.now c.rest_from.result.now c.loop-at.at c.rest_from.ensures (c.high_bits.ensures c.if-high_bits-ne0.false) i from lt
]

pub returns : goal.returns
returns c = λ none i. elim (cases_lt i c.loop-at.at) [
  | inl before ↦ c.loop-at.invariant i before
  | inr from ↦ elim (cases_lt i (length c.args.bytes.now)) [
    | inl lt ↦ low_from c.args.bytes.now c.rest_from-2.result.now (length c.args.bytes.now - 8) c.rest_from-2.ensures (c.high_bits-2.ensures (eqb-true _ _ none)) i (omega (arith, c.loop-at-test.false)) (omega (arith, c.if-bytes-lt8.false))
    | inr past ↦ let nothing : slice_index c.args.bytes.now i ≡ 0 = get_or_past c.args.bytes.now i 0 past in omega arith
  ]
]
