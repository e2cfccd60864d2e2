-- Numbers of several digits.
use Rattle.std.proofs.Common.{◌≡◌, ◌+◌, ◌*◌, ◌≤◌, ◌<◌, ◌^◌, ℕ, List, [], ◌∷◌, length, get_or, arith}
use Rattle.std.specs.Prelude.{◌-◌, nat_lt, false}
use Rattle.std.proofs.lemmas.Bool.Decides.{nat_tests}
use Rattle.byte_text.specs.Decimal.{decimal_from}

-- more digits make no smaller number
pub decimal-grows : (n : ℕ) (t : List ℕ) → n ≤ decimal_from n t
decimal-grows n [] = omega arith
decimal-grows n (b ∷ rest) = let more = decimal-grows (n * 10 + (b - 0x30)) rest in omega (arith, more)

-- a number that doesn't fit goes on not to fit
decimal-wide : (n : ℕ) (t : List ℕ) → 0 < length t → 2 ^ 64 ≤ n * 10 + (get_or t 0 0 - 0x30) → 2 ^ 64 ≤ decimal_from n t
decimal-wide n [] some h = absurd (omega (arith, some))
decimal-wide n (b ∷ t) some h = let more = decimal-grows (n * 10 + (b - 0x30)) t in omega (arith, more, h)

-- so the whole doesn't fit
pub decimal-over : (n : ℕ) (t whole : List ℕ) → decimal_from n t ≡ decimal_from 0 whole → 0 < length t → 2 ^ 64 ≤ n * 10 + (get_or t 0 0 - 0x30)
    → nat_lt (decimal_from 0 whole) (2 ^ 64) ≡ false
decimal-over n t whole same some h = let wide = decimal-wide n t some h in let over : 2 ^ 64 ≤ decimal_from 0 whole = omega (arith, wide, same) in grind (arith, nat_tests)
