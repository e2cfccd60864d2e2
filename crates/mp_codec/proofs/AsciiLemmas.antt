-- Bytes of a word whose high bits are not set are ASCII.
use Rattle.std.proofs.Common.{◌≡◌, ◌∙◌, ap, ℕ, zero, suc, ◌+◌, ◌-◌, ◌*◌, ◌^◌, ◌<◌, ◌≤◌, List, drop, inl, inr, arith}
use Rattle.std.specs.Prelude.{slice_index}
use Rattle.std.proofs.lemmas.Bool.{cases_lt}
use Rattle.std.proofs.lemmas.List.{get_or-drop}
use lib.Bits.{bit_and, and_block}

-- the number that some bytes spell, the lowest first, so many of them from a place on
abbrev pub word : (ℕ → ℕ) → ℕ → ℕ → ℕ
word byte zero k = 0
word byte (suc n) k = word byte n (suc k) * 2 ^ 8 + byte k

-- the high bits of so many bytes
abbrev pub high : ℕ → ℕ
high zero = 0
high (suc n) = high n * 2 ^ 8 + 128

-- a byte whose high bit is not set is ASCII
low_byte : (b : ℕ) → bit_and b 128 ≡ 0 → b < 256 → b < 128
low_byte b e fits = elim (cases_lt b 128) [
  | inl lt ↦ lt
  | inr ge ↦
      let is : b ≡ 1 * 2 ^ 7 + (b - 128) = omega arith in
      let split : bit_and (1 * 2 ^ 7 + (b - 128)) (1 * 2 ^ 7 + 0) ≡ bit_and 1 1 * 2 ^ 7 + bit_and (b - 128) 0 = and_block 7 1 1 (b - 128) 0 (omega arith) (omega arith) in
      let whole : bit_and b 128 ≡ 128 + bit_and (b - 128) 0 = ap (λ (n : ℕ). bit_and n 128) is ∙ split in
      absurd (omega arith)
]

-- where no high bit of a word is set, each of its bytes is ASCII
pub low_bytes : (byte : ℕ → ℕ) → ((k : ℕ) → byte k < 256) → (n k : ℕ) → bit_and (word byte n k) (high n) ≡ 0 → (j : ℕ) → j < n → byte (j + k) < 128
low_bytes byte fits zero k e j lt = absurd (omega arith)
low_bytes byte fits (suc n) k e j lt =
    let split : bit_and (word byte n (suc k) * 2 ^ 8 + byte k) (high n * 2 ^ 8 + 128) ≡ bit_and (word byte n (suc k)) (high n) * 2 ^ 8 + bit_and (byte k) 128 =
    and_block 8 (word byte n (suc k)) (high n) (byte k) 128 (fits k) (omega arith) in
    let first : bit_and (byte k) 128 ≡ 0 = omega arith in
    let rest : bit_and (word byte n (suc k)) (high n) ≡ 0 = omega arith in
    go j lt (low_byte (byte k) first (fits k)) (low_bytes byte fits n (suc k) rest)
  where
    go : (j : ℕ) → j < suc n → byte k < 128 → ((i : ℕ) → i < n → byte (i + suc k) < 128) → byte (j + k) < 128
    go zero lt here later = let same : 0 + k ≡ k = omega arith in omega (arith, ap byte same)
    go (suc i) lt here later = let same : suc i + k ≡ i + suc k = omega arith in let low : byte (i + suc k) < 128 = later i (omega arith) in omega (arith, ap byte same)

-- the same for a word that stands at a place of some bytes
pub low_from : (bytes rest : List ℕ) (at : ℕ) → rest ≡ drop at bytes → ((k : ℕ) → k < 8 → slice_index rest k < 128) → (i : ℕ) → at ≤ i → i < at + 8 → slice_index bytes i < 128
low_from bytes rest at is low i le lt =
    let here : at + (i - at) ≡ i = omega arith in
    let same : slice_index rest (i - at) ≡ slice_index bytes i = ap (λ (l : List ℕ). slice_index l (i - at)) is ∙ get_or-drop at bytes (i - at) 0 ∙ ap (slice_index bytes) here in
    omega (arith, low (i - at) (omega arith))
