-- How the cursor's functions follow the runs of a part.
use Rattle.std.proofs.Common.{◌≡◌, ◌==◌, ◌<◌, ◌^◌, ℕ, List, [], ◌∷◌, true, false, length, refl}
use Rattle.std.specs.Cmp.{first_so}
use borrow.Author.Tests.{ltb-true}
use Rattle.conda_version.specs.Version.{folded}
use Rattle.conda_version.specs.Grammar.{narrow_from}
use Rattle.conda_version.specs.Order.{rank}
use Rattle.conda_version.specs.Cursor.{after_digits, number_from, word_run}
use Rattle.std.specs.Prelude.{codes, map}
use Rattle.std.specs.Ordering.{is_eq, nat_cmp}
use Rattle.std.specs.Cmp.Lexicographic.{slice_cmp, texts_ties}

-- where the reading of a number stands
pub record ReadsNumber (text : List ℕ) (value : ℕ) (rest : List ℕ) : Type 0 where
  pub narrow : narrow_from value rest ≡ true
  pub value_is : number_from 0 text ≡ number_from value rest
  pub rest_is : after_digits text ≡ after_digits rest

-- an open number is narrow
pub narrow-now : (n : ℕ) (t : List ℕ) → narrow_from n t ≡ true → n < 2 ^ 128
narrow-now n [] e = ltb-true n (2 ^ 128) e
narrow-now n (b ∷ rest) e = ltb-true n (2 ^ 128) (first_so _ _ e)

-- the rank of a word by what it ties with
pub rank-dev : (w : List ℕ) → (length w == 0) ≡ false → is_eq (slice_cmp nat_cmp (map folded w) (codes "dev")) ≡ true → rank (word_run w) ≡ 0
rank-dev [] n e = cc
rank-dev (b ∷ rest) n e = rw (texts_ties (map folded (b ∷ rest)) (codes "dev"), e) refl

-- nor `dev`, and ties with `post`
pub rank-post : (w : List ℕ) → (length w == 0) ≡ false → is_eq (slice_cmp nat_cmp (map folded w) (codes "dev")) ≡ false
    → is_eq (slice_cmp nat_cmp (map folded w) (codes "post")) ≡ true → rank (word_run w) ≡ 3
rank-post [] n d e = cc
rank-post (b ∷ rest) n d e = rw (texts_ties (map folded (b ∷ rest)) (codes "dev"), texts_ties (map folded (b ∷ rest)) (codes "post"), d, e) refl

-- and ties with neither
pub rank-other : (w : List ℕ) → (length w == 0) ≡ false → is_eq (slice_cmp nat_cmp (map folded w) (codes "dev")) ≡ false
    → is_eq (slice_cmp nat_cmp (map folded w) (codes "post")) ≡ false → rank (word_run w) ≡ 1
rank-other [] n d e = cc
rank-other (b ∷ rest) n d e = rw (texts_ties (map folded (b ∷ rest)) (codes "dev"), texts_ties (map folded (b ∷ rest)) (codes "post"), d, e) refl
