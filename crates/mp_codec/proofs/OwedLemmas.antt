-- Values that are owed: each takes a byte, so where more are owed than bytes are left it doesn't matter how many.
use Rattle.std.proofs.Common.{◌≡◌, refl, sym, ◌∙◌, ap, ℕ, zero, suc, ◌+◌, ◌<◌, ◌≤◌, min, Bool, true, false, ltb, length, arith}
use Rattle.std.specs.Prelude.{Result, Ok, Err}
use Rattle.std.proofs.lemmas.Bool.{ltb-true, ltb-false}
use Rattle.gateway_words.specs.Places.{Position}
use Rattle.mp_codec.specs.declared.fault.FormatFault.{FormatFault}
use Rattle.mp_codec.specs.Reading.{values_from}
use Rattle.mp_codec.proofs.PlaceLemmas.{same_end}
use Rattle.mp_codec.proofs.PassingLemmas.{LieAll, passed_values, more_err}
use Rattle.mp_codec.proofs.LeafLemmas.{value_longer}
use Rattle.mp_codec.proofs.JudgingLemmas.{Parts, parts, lie_all_le}

-- so many values take as many bytes at least
many_longer : (n : ℕ) (here there : Position) → LieAll n here there → here.at + n ≤ there.at
many_longer zero here there l = let le : here.at ≤ there.at = lie_all_le zero here there l in omega arith
many_longer (suc n) here there l =
    let p : Parts n here there = parts n here there l in
    let first : here.at < p.mid.at = value_longer p.first here p.mid p.lies in
    let rest : p.mid.at + n ≤ there.at = many_longer n p.mid there p.rest in
    omega arith

many_within : (n : ℕ) (here there : Position) → LieAll n here there → n ≤ length here.left
many_within n here there l =
    let longer : here.at + n ≤ there.at = many_longer n here there l in
    let same : there.at + length there.left ≡ here.at + length here.left = same_end l.bytes here there l.between in
    omega arith

-- how many values are owed doesn't matter, where they are more than the bytes that are left
pub too_many : (m n : ℕ) (here : Position) → length here.left < m → length here.left < n → values_from m here ≡ values_from n here
too_many m n here lm ln = go (values_from m here) (values_from n here) refl refl
  where
    go : (r s : Result Position FormatFault) → values_from m here ≡ r → values_from n here ≡ s → r ≡ s
    go (Ok there) s em en = absurd (let within : m ≤ length here.left = many_within m here there (passed_values m here there em) in omega arith)
    go (Err f) (Ok there) em en = absurd (let within : n ≤ length here.left = many_within n here there (passed_values n here there en) in omega arith)
    go (Err f) (Err g) em en =
        sym (more_err (suc (length here.left)) m n here f em)
        ∙ ap (λ (k : ℕ). values_from k here) (let sum : m + n ≡ n + m = omega arith in sum)
        ∙ more_err (suc (length here.left)) n m here g en

-- a count that stands still at a limit above the bytes that are left is as good as the true one
pub capped : (n most : ℕ) (here : Position) → length here.left < most → values_from (min n most) here ≡ values_from n here
capped n most here lt = go (ltb most n) refl
  where
    go : (b : Bool) → ltb most n ≡ b → values_from (min n most) here ≡ values_from n here
    go true is =
        let more : most < n = ltb-true most n is in
        let least : min n most ≡ most = omega arith in
        ap (λ (k : ℕ). values_from k here) least ∙ too_many most n here lt (omega arith)
    go false is =
        let fits : n ≤ most = ltb-false most n is in
        let least : min n most ≡ n = omega arith in
        ap (λ (k : ℕ). values_from k here) least
