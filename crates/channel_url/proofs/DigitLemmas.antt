-- The hexadecimal digits of a digest may stand in an address.
use Rattle.std.proofs.Common.{◌≡◌, ◌∙◌, ap, sym, subst, refl, ℕ, suc, ◌<◌, ◌+◌, ◌/◌, ◌%◌, Bool, true, ◌&&◌, List, [], ◌∷◌, Some, arith}
use Rattle.std.specs.Prelude.{slice_index}
use Rattle.std.specs.List.{list_all}
use Rattle.std.proofs.lemmas.Bool.Decides.{nat_tests}
use Rattle.hex.specs.Hex.{encode_with, encode_lower, lower_digits, hex_digit_value}
use Rattle.hex.proofs.HexLemmas.{IsDigits-lower_digits}
use Rattle.link_io.specs.Address.{is_address_byte}

-- a byte with a value as a digit may stand in an address
digit-fits : (c d : ℕ) → hex_digit_value c ≡ Some d → is_address_byte c ≡ true
digit-fits c d is = grind (arith, nat_tests)

-- so may the digit at a place of the table
place-fits : (d : ℕ) → d < 16 → is_address_byte (slice_index lower_digits d) ≡ true
place-fits d small = digit-fits (slice_index lower_digits d) d (IsDigits-lower_digits d small)

both : (a b : Bool) (rest : Bool) → a ≡ true → b ≡ true → rest ≡ true → a && (b && rest) ≡ true
both a b rest p q r = ap (λ (x : Bool). x && (b && rest)) p ∙ ap (λ (x : Bool). x && rest) q ∙ r

-- the digits of some bytes may stand in an address
pub digits-fit : (bytes : List ℕ) → ((i : ℕ) → slice_index bytes i < 256) → list_all is_address_byte (encode_lower bytes) ≡ true
unfolding encode_with
digits-fit [] small = refl
digits-fit (b ∷ rest) small =
    let byte : b < 256 = small 0 in
    both (is_address_byte (slice_index lower_digits (b / 16))) (is_address_byte (slice_index lower_digits (b % 16))) _
    (place-fits (b / 16) (omega (arith, byte))) (place-fits (b % 16) (omega (arith, byte))) (digits-fit rest (λ i. let next : suc i ≡ i + 1 = omega arith in subst (λ (k : ℕ). slice_index (b ∷ rest) k < 256) (sym next) (small (i + 1))))
