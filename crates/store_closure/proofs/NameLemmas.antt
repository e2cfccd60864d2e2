-- The names of the files of a place are store names.
use Rattle.std.proofs.Common.{◌≡◌, ℕ, zero, suc, ◌/◌, ◌%◌, ◌<◌, Bool, true, ◌&&◌, inl, inr, List, [], ◌∷◌, length, slice_index, Result, Ok, Err, refl, ap, ◌∙◌, arith}
use Rattle.std.specs.Prelude.{IfOk}
use Rattle.std.specs.List.{list_all}
use Rattle.std.proofs.lemmas.Bool.{and_parts, cases_lt}
use Rattle.hex.specs.Hex.{IsBytes, encode_lower, encode_with, lower_digits}
use Rattle.hex.proofs.HexLemmas.{length-encode_with}
use Rattle.channel_store.specs.Names.{is_place, is_store_name, is_shard_digit, are_shard_digits, shard_name}
use Rattle.channel_store.proofs.NameLemmas.{shard_is_store_name}

-- the test of the first n places of the table of digits
abbrev all_digits : ℕ → Bool
all_digits zero = true
all_digits (suc n) = is_shard_digit (slice_index lower_digits n) && all_digits n

-- a place below n passed the test
digit-below : (n v : ℕ) → all_digits n ≡ true → v < n → is_shard_digit (slice_index lower_digits v) ≡ true
digit-below zero v h lt = absurd (omega arith)
digit-below (suc n) v h lt =
    let parts = and_parts (is_shard_digit (slice_index lower_digits n)) (all_digits n) h in
    elim (cases_lt v n) [
      | inl below ↦ digit-below n v parts.1 below
      | inr top ↦
          let e : v ≡ n = omega arith in
          rw e parts.0
    ]

-- the hexadecimal text of bytes has digits of a shard's name alone
digits-of : (bytes : List ℕ) → IsBytes bytes → list_all is_shard_digit (encode_lower bytes) ≡ true
unfolding encode_with
digits-of [] are = refl
digits-of (b ∷ rest) are =
    let fits : b < 256 = are 0 in
    let high = digit-below 16 (b / 16) refl (omega arith) in
    let low = digit-below 16 (b % 16) refl (omega arith) in
    rw (high, low) (digits-of rest (λ k. are (suc k)))

-- the text of 32 bytes is the digits of a shard's name
shard-digits : (bytes : List ℕ) → length bytes ≡ 32 → IsBytes bytes → are_shard_digits (encode_lower bytes) ≡ true
shard-digits bytes size are =
    let long : length (encode_lower bytes) ≡ 64 = omega (arith, size, length-encode_with lower_digits bytes) in
    rw (long, digits-of bytes are) refl

-- the file of a shard has a store name
pub shard-stored : (place bytes : List ℕ) → is_place place ≡ true → length bytes ≡ 32 → IsBytes bytes → is_store_name (shard_name place (encode_lower bytes)) ≡ true
shard-stored place bytes placed size are = shard_is_store_name place placed (encode_lower bytes) (shard-digits bytes size are)

-- a text that is a store name has one
pub named-stored : {E : Type 0} (r : Result (List ℕ) E) (wanted : List ℕ) → is_store_name wanted ≡ true
    → IfOk r (λ name. name ≡ wanted) → IfOk r (λ name. is_store_name name ≡ true)
named-stored (Ok name) wanted stored is = ap is_store_name is ∙ stored
named-stored (Err e) wanted stored is = tt

-- a text that is a place is one
pub named-place : {E : Type 0} (r : Result (List ℕ) E) (wanted : List ℕ) → is_place wanted ≡ true
    → IfOk r (λ name. name ≡ wanted) → IfOk r (λ name. is_place name ≡ true)
named-place (Ok name) wanted placed is = ap is_place is ∙ placed
named-place (Err e) wanted placed is = tt
