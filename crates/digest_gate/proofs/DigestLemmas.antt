-- Facts on the hexadecimal texts of digests.
use Rattle.std.proofs.Common.{◌≡◌, ℕ, zero, suc, ◌+◌, ◌*◌, ◌/◌, ◌%◌, ◌<◌, ◌==◌, Bool, true, ◌&&◌, inl, inr, List, [], ◌∷◌, ◌++◌, length, slice_index, Option, Some, None, Result, Ok, Err, refl, sym, ap, ◌∙◌, arith}
use Rattle.std.specs.Prelude.{◌↔◌, IsOk, IsSome, IfSome, map}
use Rattle.std.specs.Char.{to_ascii_lowercase}
use Rattle.std.specs.Int.{byte_at, bytes_high_first, to_be_bytes, w32}
use Rattle.std.specs.Option.{option_map_or}
use Rattle.std.proofs.lemmas.Bool.{and_parts, cases_lt, eqb-true}
use Rattle.std.proofs.lemmas.List.{length-map}
use Rattle.hex.specs.Hex.{IsBytes, decode_pairs, decode_sized, digit_or_error, encode_lower, encode_with, hex_digit_value, lower_digits, pair_value, value_at, ◌>>=◌}
use Rattle.hex.specs.declared.error.FromHexError.{FromHexError}
use Rattle.hex.proofs.HexLemmas.{IsDigits-lower_digits, IsOk-decode_sized, decode_sized-encode_lower, decode_sized-ok, length-encode_with}
use Rattle.hex.proofs.Pairs.{cons_byte, decode_pairs-ok_pair, decode_sized-pairs}
use Rattle.sha2.specs.Sha256.{digest_bytes, sha256}
use Rattle.sha2.proofs.Facts256.{length-sha256}
use Rattle.digest_gate.specs.declared.digest.Digest.{Digest}
use Rattle.digest_gate.specs.Digest.{IsDigest, IsDigestText, Spells, digest_in, digest_of, digest_with, text_of}

-- ---- one digit

-- a digit's value does not depend on its case
hex_digit_value-lowercase : (c : ℕ) → hex_digit_value (to_ascii_lowercase c) ≡ hex_digit_value c
hex_digit_value-lowercase c = grind arith

-- a digit is below 103, and its value below 16
hex_digit_value-bounds : (c v : ℕ) → hex_digit_value c ≡ Some v → (c < 103) × (v < 16)
hex_digit_value-bounds c v h = grind arith

-- whether c, if it is a digit, is in lower case the digit at the place of its value
abbrev is_at_value : ℕ → Bool
is_at_value c = option_map_or (λ v. slice_index lower_digits v == to_ascii_lowercase c) (hex_digit_value c) true

-- the test of the first n bytes
abbrev all_at_value : ℕ → Bool
all_at_value zero = true
all_at_value (suc n) = is_at_value n && all_at_value n

-- a byte below n passed the test
is_at_value-below : (n c : ℕ) → all_at_value n ≡ true → c < n → is_at_value c ≡ true
is_at_value-below zero c h lt = absurd (omega arith)
is_at_value-below (suc n) c h lt =
    let parts = and_parts (is_at_value n) (all_at_value n) h in
    elim (cases_lt c n) [
      | inl below ↦ is_at_value-below n c parts.1 below
      | inr top ↦
          let e : c ≡ n = omega arith in
          rw e parts.0
    ]

-- a digit in lower case is the digit at the place of its value
digit_at_value : (c v : ℕ) → hex_digit_value c ≡ Some v → to_ascii_lowercase c ≡ slice_index lower_digits v
digit_at_value c v h =
    let passed = is_at_value-below 103 c refl (hex_digit_value-bounds c v h).0 in
    sym (eqb-true (slice_index lower_digits v) (to_ascii_lowercase c) (rw h at passed))

-- what in lower case is the digit at place v has that value
value_of_digit : (c v : ℕ) → v < 16 → to_ascii_lowercase c ≡ slice_index lower_digits v → hex_digit_value c ≡ Some v
value_of_digit c v small e =
    sym (hex_digit_value-lowercase c) ∙ ap hex_digit_value e ∙ IsDigits-lower_digits v small

-- ---- pairs of digits

-- what an `Ok` after a first step shows
bind_ok : {A B : Type 0} (r : Result A FromHexError) (f : A → Result B FromHexError) (y : B)
    → (r >>= f) ≡ Ok y → (x : A) × (r ≡ Ok x) × (f x ≡ Ok y)
bind_ok (Ok x) f y h = (x, refl, h)
bind_ok (Err e) f y h = cc h

-- the value of a digit that was read
digit_read : (c i : ℕ) (o : Option ℕ) (v : ℕ) → digit_or_error c i o ≡ Ok v → o ≡ Some v
digit_read c i (Some w) v h = cc
digit_read c i None v h = cc

-- digits that decode are in lower case the digits of the bytes
lowercase-decoded : (i : ℕ) (s bytes : List ℕ) → decode_pairs i s ≡ Ok bytes
    → map to_ascii_lowercase s ≡ encode_lower bytes
unfolding decode_pairs encode_with
lowercase-decoded i [] bytes h =
    let e : bytes ≡ [] = cc in
    rw e refl
lowercase-decoded i (a ∷ []) bytes h = cc h
lowercase-decoded i (a ∷ b ∷ rest) bytes h =
    let pair = bind_ok (pair_value a b i) _ bytes h in
    let high = bind_ok (value_at a i) _ pair.0 pair.1 in
    let low = bind_ok (value_at b (i + 1)) _ pair.0 high.2 in
    let tail = bind_ok (decode_pairs (i + 2) rest) _ bytes pair.2 in
    let high_is = digit_read a i (hex_digit_value a) high.0 high.1 in
    let low_is = digit_read b (i + 1) (hex_digit_value b) low.0 low.1 in
    let byte : high.0 * 16 + low.0 ≡ pair.0 = cc low.2 in
    let whole : pair.0 ∷ tail.0 ≡ bytes = cc tail.2 in
    let small = (hex_digit_value-bounds b low.0 low_is).1 in
    let high_part : high.0 ≡ pair.0 / 16 = omega arith in
    let low_part : low.0 ≡ pair.0 % 16 = omega arith in
    let first : to_ascii_lowercase a ≡ slice_index lower_digits (pair.0 / 16) = digit_at_value a high.0 high_is ∙ ap (slice_index lower_digits) high_part in
    let second : to_ascii_lowercase b ≡ slice_index lower_digits (pair.0 % 16) = digit_at_value b low.0 low_is ∙ ap (slice_index lower_digits) low_part in
    let others = lowercase-decoded (i + 2) rest tail.0 tail.1 in
    rw (← whole) (cc (first, second, others))

-- digits that are in lower case those of some bytes decode to them
decoded-lowercase : (i : ℕ) (s bytes : List ℕ) → IsBytes bytes → map to_ascii_lowercase s ≡ encode_lower bytes
    → decode_pairs i s ≡ Ok bytes
unfolding decode_pairs encode_with
decoded-lowercase i [] [] are h = refl
decoded-lowercase i (a ∷ s) [] are h = cc h
decoded-lowercase i [] (v ∷ more) are h = cc h
decoded-lowercase i (a ∷ []) (v ∷ more) are h = cc h
decoded-lowercase i (a ∷ b ∷ rest) (v ∷ more) are h =
    let fits : v < 256 = are 0 in
    let first : to_ascii_lowercase a ≡ slice_index lower_digits (v / 16) = cc h in
    let second : to_ascii_lowercase b ≡ slice_index lower_digits (v % 16) = cc h in
    let others : map to_ascii_lowercase rest ≡ encode_lower more = cc h in
    let high : hex_digit_value a ≡ Some (v / 16) = value_of_digit a (v / 16) (omega arith) first in
    let low : hex_digit_value b ≡ Some (v % 16) = value_of_digit b (v % 16) (omega arith) second in
    let pair : pair_value a b i ≡ Ok (v / 16 * 16 + v % 16) = rw (high, low) refl in
    let whole : v / 16 * 16 + v % 16 ≡ v = omega arith in
    let tail = decoded-lowercase (i + 2) rest more (λ k. are (suc k)) others in
    decode_pairs-ok_pair i a b _ rest pair ∙ ap (cons_byte (v / 16 * 16 + v % 16)) tail
    ∙ ap (λ (n : ℕ). Ok (n ∷ more)) whole

-- ---- digests and their texts

-- a text of 64 bytes is read by pairs
decode_sized-64 : (text : List ℕ) → length text ≡ 64 → decode_sized text 32 ≡ decode_pairs 0 text
decode_sized-64 text long = decode_sized-pairs text 32 (omega arith) (omega arith)

-- the bytes of a digest that was read
decoded : (r : Result (List ℕ) FromHexError) (d : Digest) → digest_with r ≡ Some d → r ≡ Ok d.0
decoded (Ok bytes) d h = cc
decoded (Err e) d h = cc h

-- a reading gives a digest where it gives bytes
IsSome-digest_with : (r : Result (List ℕ) FromHexError) → IsSome (digest_with r) ↔ IsOk r
IsSome-digest_with (Ok bytes) = (λ _. refl, λ _. refl)
IsSome-digest_with (Err e) = (λ h. cc h, λ h. cc h)

-- the digest that a text was read as is spelled by it
pub Spells-digest_in : (text : List ℕ) (d : Digest) → digest_in text ≡ Some d → Spells text d
Spells-digest_in text d h =
    let bytes = decoded (decode_sized text 32) d h in
    let long = decode_sized-ok text 32 d.0 bytes in
    lowercase-decoded 0 text d.0 (sym (decode_sized-64 text long) ∙ bytes)

-- the same of what a call read
pub IfSome-Spells : (text : List ℕ) (read : Option Digest) → read ≡ digest_in text → IfSome read (Spells text)
IfSome-Spells text (Some d) h = Spells-digest_in text d (sym h)
IfSome-Spells text None h = tt

-- a text that spells a digest is read as it
pub digest_in-Spells : (text : List ℕ) (d : Digest) → IsDigest d → Spells text d → digest_in text ≡ Some d
digest_in-Spells text d is h =
    let long : length text ≡ 64 = omega (arith, is.0, length-map text to_ascii_lowercase, ap length h, length-encode_with lower_digits d.0) in
    ap digest_with (decode_sized-64 text long ∙ decoded-lowercase 0 text d.0 is.1 h)

-- which texts are read
pub IsSome-digest_in : (text : List ℕ) → IsSome (digest_in text) ↔ IsDigestText text
IsSome-digest_in text =
    let read = IsSome-digest_with (decode_sized text 32) in
    let form = IsOk-decode_sized text 32 in
    (λ h. form.0 (read.0 h), λ h. read.1 (form.1 h))

-- a printed digest is read as itself
pub digest_in-text_of : (d : Digest) → IsDigest d → digest_in (text_of d) ≡ Some d
digest_in-text_of d is = ap digest_with (decode_sized-encode_lower d.0 32 is.0 is.1)

-- ---- the bytes of a digest

-- a byte in front of bytes
IsBytes-cons : (b : ℕ) (rest : List ℕ) → b < 256 → IsBytes rest → IsBytes (b ∷ rest)
IsBytes-cons b rest h hs zero = h
IsBytes-cons b rest h hs (suc i) = hs i

-- bytes behind bytes
IsBytes-append : (xs ys : List ℕ) → IsBytes xs → IsBytes ys → IsBytes (xs ++ ys)
IsBytes-append [] ys hx hy = hy
IsBytes-append (x ∷ xs) ys hx hy =
    IsBytes-cons x (xs ++ ys) (hx 0) (IsBytes-append xs ys (λ i. hx (suc i)) hy)

-- nothing is bytes
IsBytes-nil : IsBytes []
IsBytes-nil i = omega arith

-- a byte of a number is one
byte_at-bound : (i n : ℕ) → byte_at i n < 256
byte_at-bound zero n = omega arith
byte_at-bound (suc i) n = omega arith

-- the bytes of a number are bytes
IsBytes-bytes_high_first : (k n : ℕ) → IsBytes (bytes_high_first k n)
IsBytes-bytes_high_first zero n = IsBytes-nil
IsBytes-bytes_high_first (suc k) n =
    IsBytes-cons (byte_at k n) (bytes_high_first k n) (byte_at-bound k n) (IsBytes-bytes_high_first k n)

-- the words of a hash value are bytes
IsBytes-digest_bytes : (words : List ℕ) (n : ℕ) → IsBytes (digest_bytes words n)
unfolding digest_bytes
IsBytes-digest_bytes words zero = IsBytes-nil
IsBytes-digest_bytes words (suc n) =
    IsBytes-append (digest_bytes words n) (to_be_bytes w32 (slice_index words n)) (IsBytes-digest_bytes words n)
    (IsBytes-bytes_high_first 4 (slice_index words n))

-- the digest of some bytes is a digest
pub IsDigest-digest_of : (bytes : List ℕ) → IsDigest (digest_of bytes)
unfolding sha256
IsDigest-digest_of bytes = (length-sha256 bytes, IsBytes-digest_bytes _ 8)
