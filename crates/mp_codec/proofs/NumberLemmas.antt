-- Numbers as bytes, the highest first.
use Rattle.std.proofs.Common.{◌≡◌, ℕ, List, [], ◌∷◌, length, get_or, arith}
use Rattle.std.specs.Int.{w64, from_be_bytes}
use Rattle.mp_codec.specs.Format.{big_endian}

-- eight bytes spell what std reads of them
pub big_endian_8 : (bytes : List ℕ) (n : ℕ) → length bytes ≡ 8
    → n ≡ from_be_bytes w64 (get_or bytes 0 0 ∷ get_or bytes 1 0 ∷ get_or bytes 2 0 ∷ get_or bytes 3 0 ∷ get_or bytes 4 0 ∷ get_or bytes 5 0 ∷ get_or bytes 6 0 ∷ get_or bytes 7 0 ∷ [])
    → n ≡ big_endian bytes
big_endian_8 (a ∷ b ∷ c ∷ d ∷ e ∷ f ∷ g ∷ h ∷ []) n len is = omega arith
big_endian_8 _ n len is = absurd (omega arith)
