-- The names under which files are put are store names.
use Rattle.std.proofs.Common.{◌≡◌, ℕ, zero, suc, ◌/◌, ◌%◌, ◌<◌, Bool, true, ◌&&◌, inl, inr, List, [], ◌∷◌, length, slice_index, Result, Ok, Err, refl, ap, ◌∙◌, arith}
use Rattle.std.specs.Prelude.{IfOk}
use Rattle.std.specs.List.{list_all}
use Rattle.std.proofs.lemmas.Bool.{and_parts, cases_lt}
use Rattle.hex.specs.Hex.{IsBytes, encode_lower, encode_with, lower_digits}
use Rattle.hex.proofs.HexLemmas.{length-encode_with}
use Rattle.digest_gate.specs.declared.digest.Digest.{Digest}
use Rattle.digest_gate.specs.Digest.{IsDigest, text_of}
use Rattle.channel_store.specs.Names.{is_place, is_store_name, is_shard_digit, are_shard_digits}
use Rattle.channel_store.proofs.NameLemmas.{shard_is_store_name}
use Rattle.channel_indexer.specs.Shards.{shard_file}

-- the test of the first n places of the table of digits
abbrev all_digits : ℕ → Bool
all_digits zero = true
all_digits (suc n) = is_shard_digit (slice_index lower_digits n) && all_digits n

-- a place below n passed the test
digit-below : (n v : ℕ) → all_digits n ≡ true → v < n → is_shard_digit (slice_index lower_digits v) ≡ true
digit-below zero v h lt = absurd (omega arith)
digit-below (suc n) v h lt =
    let parts = and_parts (is_shard_digit (slice_index lower_digits n)) (all_digits n) h in
    elim (cases_lt v n) [
      | inl below ↦ digit-below n v parts.1 below
      | inr top ↦
          let e : v ≡ n = omega arith in
          rw e parts.0
    ]

-- the hexadecimal text of bytes has digits of a shard's name alone
digits-of : (bytes : List ℕ) → IsBytes bytes → list_all is_shard_digit (encode_lower bytes) ≡ true
unfolding encode_with
digits-of [] are = refl
digits-of (b ∷ rest) are =
    let fits : b < 256 = are 0 in
    let high = digit-below 16 (b / 16) refl (omega arith) in
    let low = digit-below 16 (b % 16) refl (omega arith) in
    rw (high, low) (digits-of rest (λ k. are (suc k)))

-- the text of a digest is the digits of a shard's name
pub shard-digits : (d : Digest) → IsDigest d → are_shard_digits (text_of d) ≡ true
shard-digits d is =
    let long : length (text_of d) ≡ 64 = omega (arith, is.0, length-encode_with lower_digits d.0) in
    rw (long, digits-of d.0 is.1) refl

-- the file of a shard has a store name
pub shard-stored : (place : List ℕ) (d : Digest) → is_place place ≡ true → IsDigest d → is_store_name (shard_file place d) ≡ true
shard-stored place d placed is = shard_is_store_name place placed (text_of d) (shard-digits d is)

-- a text that is a store name has one
pub named-stored : {E : Type 0} (r : Result (List ℕ) E) (wanted : List ℕ) → is_store_name wanted ≡ true
    → IfOk r (λ name. name ≡ wanted) → IfOk r (λ name. is_store_name name ≡ true)
named-stored (Ok name) wanted stored is = ap is_store_name is ∙ stored
named-stored (Err e) wanted stored is = tt
