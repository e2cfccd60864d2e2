-- The next token of a text, byte by byte.
use Rattle.std.proofs.Common.{◌≡◌, ◌==◌, ◌+◌, ◌<◌, ◌≤◌, ℕ, suc, List, [], ◌∷◌, ◌++◌, true, false, take, drop, length, get_or, append_assoc, refl, sym, ap, ◌∙◌, arith, inl, inr}
use Rattle.std.specs.Prelude.{◌⊎◌, Option, Some, None}
use Rattle.std.proofs.lemmas.Bool.{cases_Bool}
use Rattle.std.proofs.lemmas.Bool.Decides.{nat_tests}
use Rattle.std.proofs.lemmas.List.{append-nil}
use Rattle.gateway_words.specs.Ascii.{space}
use Rattle.byte_text.specs.Text.{begins_at, skip_blanks}
use Rattle.conda_version.specs.Cursor.{leaf_len}
use Rattle.conda_version.specs.Token.{Token, ended_by, leaf, sign_of, tokens_from}
use Rattle.conda_version.proofs.FaultLemmas.{front-and-tail, tail_of}

-- a blank is no sign
blank-no-sign : (b : ℕ) → (b == space) ≡ true → sign_of b ≡ None
blank-no-sign b e = let is : b ≡ space = grind (arith, nat_tests) in rw is refl

-- no blank stands at the front any more
pub skipped-front : (t : List ℕ) → begins_at space (skip_blanks t) ≡ false
skipped-front [] = refl
skipped-front (b ∷ rest) = elim (cases_Bool (b == space)) [
  | inl blank ↦ rw blank (skipped-front rest)
  | inr on ↦ rw (on, on) refl
]

-- blanks between leaves are passed over
pub tokens-blanks : (t : List ℕ) (at front : ℕ) → front + length (skip_blanks t) ≡ at + length t → tokens_from None front (skip_blanks t) ≡ tokens_from None at t
tokens-blanks [] at front e = let same : front ≡ at = omega arith in ap (λ n. tokens_from None n []) same
tokens-blanks (b ∷ rest) at front e = elim (cases_Bool (b == space)) [
  | inl blank ↦ simp (blank, blank-no-sign b blank) (tokens-blanks rest (suc at) front (simp blank at e ∙ omega arith))
  | inr on ↦
      let same : front ≡ at = let h : front + length (b ∷ rest) ≡ at + length (b ∷ rest) = simp on at e in omega (arith, h) in
      simp on (ap (λ n. tokens_from None n (b ∷ rest)) same)
]

-- a byte is a sign or none
pub sign-cases : (b : ℕ) → (sign_of b ≡ None) ⊎ ((s : Token) × (sign_of b ≡ Some s))
sign-cases b = by (sign_of b) refl
  where
    by : (found : Option Token) → sign_of b ≡ found → (sign_of b ≡ None) ⊎ ((s : Token) × (sign_of b ≡ Some s))
    by None is = inl is
    by (Some s) is = inr (s, is)

-- the bytes up to the next sign belong to the leaf that is open
pub tokens-leaf : (t w : List ℕ) (p at : ℕ) → tokens_from (Some (p, w)) at t
    ≡ record { at = p; token = leaf (w ++ take (leaf_len t) t) } ∷ tokens_from None (at + leaf_len t) (drop (leaf_len t) t)
tokens-leaf [] w p at = rw append-nil refl
tokens-leaf (b ∷ rest) w p at =
    let place : suc at + leaf_len rest ≡ at + suc (leaf_len rest) = omega arith in
    let here : at + 0 ≡ at = omega arith in
    elim (sign-cases b) [
      | inl none ↦ simp none (tokens-leaf rest (w ++ b ∷ []) p (suc at) ∙ rw (append_assoc, place) refl)
      | inr some ↦ simp (some.1, append-nil)
          (λ i. record { at = p; token = leaf w } ∷ ended_by None (sym here i) (Some some.0) (tokens_from None (suc (sym here i)) rest))
    ]

-- a sign at the front
pub sign-here : (t : List ℕ) (at : ℕ) (s : Token) → 1 ≤ length t → sign_of (get_or t 0 0) ≡ Some s
    → tokens_from None at t ≡ record { at = at; token = s } ∷ tokens_from None (at + 1) (tail_of t)
sign-here t at s h is =
    let next : suc at ≡ at + 1 = omega arith in
    ap (tokens_from None at) (front-and-tail t h) ∙ simp (is, next) refl

-- a leaf at the front
pub leaf-here : (t : List ℕ) (at : ℕ) → 1 ≤ length t → begins_at space t ≡ false → sign_of (get_or t 0 0) ≡ None
    → tokens_from None at t ≡ record { at = at; token = leaf (take (leaf_len t) t) } ∷ tokens_from None (at + leaf_len t) (drop (leaf_len t) t)
leaf-here [] at h on is = absurd (omega arith)
leaf-here (b ∷ rest) at h on is =
    let place : suc at + leaf_len rest ≡ at + suc (leaf_len rest) = omega arith in
    simp (is, on) (tokens-leaf rest (b ∷ []) at (suc at) ∙ rw place refl)

-- a leaf has a byte
pub leaf-some : (t : List ℕ) → 1 ≤ length t → sign_of (get_or t 0 0) ≡ None → 0 < leaf_len t
leaf-some [] h is = absurd (omega arith)
leaf-some (b ∷ rest) h is = simp is (omega arith)

-- a leaf ends within the text
pub leaf-within : (t : List ℕ) → leaf_len t ≤ length t
leaf-within [] = omega arith
leaf-within (b ∷ rest) = elim (sign-cases b) [
  | inl none ↦ simp none (omega (arith, leaf-within rest))
  | inr some ↦ simp some.1 (omega arith)
]
