-- How the tests of a text's parts follow them byte by byte.
use Rattle.std.proofs.Common.{◌≡◌, ◌==◌, true≢false, ◌<◌, ◌≤◌, ◌^◌, ℕ, List, [], ◌∷◌, ◌++◌, Bool, true, false, length, take, drop, get_or, suc, ◌-◌, refl, sym, ap, ◌∙◌, arith, inl, inr}
use Rattle.std.specs.Prelude.{◌&&◌, ◌||◌, not, nat_lt}
use Rattle.std.proofs.lemmas.Bool.{cases_Bool}
use Rattle.std.proofs.lemmas.List.{take_rest}
use Rattle.std.proofs.lemmas.Bool.Decides.{nat_tests}
use Rattle.std.specs.Char.{is_ascii_digit}
use Rattle.std.specs.List.{list_any}
use Rattle.gateway_words.specs.Ascii.{dot}
use Rattle.conda_version.specs.OrderLaws.{cut_everywhere, is_separator, put_back}
use Rattle.byte_text.specs.Text.{is_nil}
use Rattle.conda_version.specs.Version.{components, cuts, in_front, is_underscore, number, runs_from}
use Rattle.byte_text.specs.Decimal.{with_digit}
use Rattle.conda_version.specs.Grammar.{ends_in_underscore, has_empty, narrow_from}
use Rattle.conda_version.specs.Cursor.{number_from}
use Rattle.conda_version.proofs.StepLemmas.{components-split, first_component, later_components}

-- an empty component, where the first has begun already or not
abbrev pub empty_from : Bool → List ℕ → Bool
empty_from begun t = (not begun && is_nil (first_component t)) || list_any is_nil (later_components t)

-- at the start no component has begun
pub empty-start : (t : List ℕ) → has_empty t ≡ empty_from false t
empty-start t = rw components-split refl

-- a byte that doesn't cut begins a component
pub empty-on : (begun : Bool) (b : ℕ) (t : List ℕ) → cuts b t ≡ false → empty_from begun (b ∷ t) ≡ empty_from true t
empty-on true b t on = simp on refl
empty-on false b t on = simp on refl

-- a cut behind a component that has begun
pub empty-cut : (b : ℕ) (t : List ℕ) → cuts b t ≡ true → empty_from true (b ∷ t) ≡ empty_from false t
empty-cut b t cut = simp cut (empty-start t)

-- a cut where none has begun
pub empty-here : (b : ℕ) (t : List ℕ) → cuts b t ≡ true → empty_from false (b ∷ t) ≡ true
empty-here b t cut = simp cut refl

-- the last byte of a text
pub ends-low-push : (xs : List ℕ) (b : ℕ) → ends_in_underscore (xs ++ b ∷ []) ≡ is_underscore b
ends-low-push [] b = refl
ends-low-push (x ∷ []) b = refl
ends-low-push (x ∷ y ∷ xs) b = ends-low-push (y ∷ xs) b

-- a number that is too wide stays so
pub narrow-wide : (n : ℕ) (t : List ℕ) → 2 ^ 128 ≤ n → narrow_from n t ≡ false
narrow-wide n [] h = grind (arith, nat_tests)
narrow-wide n (b ∷ t) h = let e : nat_lt n (2 ^ 128) ≡ false = grind (arith, nat_tests) in rw e refl

-- the runs of digits alone
pub digits-run : (n : ℕ) (t : List ℕ) → list_any (λ b. not (is_ascii_digit b)) t ≡ false → runs_from (number n) t ≡ number (number_from n t) ∷ []
digits-run n [] e = refl
digits-run n (b ∷ t) e = elim (cases_Bool (is_ascii_digit b)) [
  | inl d ↦ simp d (digits-run (with_digit n b) t (simp d at e))
  | inr d ↦ cc (simp d at e)
]

-- what stands behind the first byte, as the code's pattern has it
abbrev pub tail_of : List ℕ → List ℕ
tail_of t = take (length t - 1) (drop 1 t)

-- a list by its first element and the others
pub front-and-tail : (t : List ℕ) → 1 ≤ length t → t ≡ get_or t 0 0 ∷ tail_of t
front-and-tail [] h = absurd (omega arith)
front-and-tail (b ∷ t) h = ap (λ (x : List ℕ). b ∷ x) (sym (take_rest (b ∷ t) 1))

-- a cut behind a component, at a list that has an element
pub empty-cut-at : (t : List ℕ) → 1 ≤ length t → cuts (get_or t 0 0) (tail_of t) ≡ true → empty_from true t ≡ empty_from false (tail_of t)
empty-cut-at t h cut = ap (empty_from true) (front-and-tail t h) ∙ empty-cut (get_or t 0 0) (tail_of t) cut

-- a byte that is no digit ends a number
pub narrow-break : (n : ℕ) (t : List ℕ) → 1 ≤ length t → n < 2 ^ 128 → is_ascii_digit (get_or t 0 0) ≡ false → narrow_from n t ≡ narrow_from 0 (tail_of t)
narrow-break n t h fits d =
    let e : nat_lt n (2 ^ 128) ≡ true = grind (arith, nat_tests) in
    ap (narrow_from n) (front-and-tail t h) ∙ rw (e, d) refl

-- a digit makes the number longer
pub narrow-grown : (n : ℕ) (t : List ℕ) → 1 ≤ length t → n < 2 ^ 128 → is_ascii_digit (get_or t 0 0) ≡ true → narrow_from n t ≡ narrow_from (with_digit n (get_or t 0 0)) (tail_of t)
narrow-grown n t h fits d =
    let e : nat_lt n (2 ^ 128) ≡ true = grind (arith, nat_tests) in
    ap (narrow_from n) (front-and-tail t h) ∙ rw (e, d) refl

-- the last byte decides
pub ends-low-last : (t : List ℕ) → 1 ≤ length t → ends_in_underscore t ≡ is_underscore (get_or t (length t - 1) 0)
ends-low-last [] h = absurd (omega arith)
ends-low-last (b ∷ []) h = refl
ends-low-last (b ∷ c ∷ t) h =
    let e : length (b ∷ c ∷ t) - 1 ≡ suc (length (c ∷ t) - 1) = omega arith in
    rw e (ends-low-last (c ∷ t) (omega arith))

-- ---- the written rule: a `_` at the end of the main part is taken off, and put back behind the last component

-- with a byte behind it, a separator cuts
cuts-more : (b c : ℕ) (t : List ℕ) → cuts b (c ∷ t) ≡ is_separator b
cuts-more b c t = by (b == dot) (is_underscore b)
  where
    by : (x y : Bool) → (x || (y && true)) ≡ (x || y)
    by true y = refl
    by false true = refl
    by false false = refl

-- a byte in front, and one behind the last component
put-front : (s : Bool) (b : ℕ) (cs : List (List ℕ)) (u : ℕ) → is_nil cs ≡ false → put_back (in_front s b cs) u ≡ in_front s b (put_back cs u)
put-front s b [] u h = absurd (true≢false h)
put-front true b (c ∷ []) u h = refl
put-front true b (c ∷ d ∷ cs) u h = refl
put-front false b (c ∷ []) u h = refl
put-front false b (c ∷ d ∷ cs) u h = refl

-- a byte in front leaves a component
in-front-some : (s : Bool) (b : ℕ) (cs : List (List ℕ)) → is_nil (in_front s b cs) ≡ false
in-front-some true b cs = refl
in-front-some false b [] = refl
in-front-some false b (c ∷ cs) = refl

-- a part has a component
plain-some : (t : List ℕ) → is_nil (cut_everywhere t) ≡ false
plain-some [] = refl
plain-some (b ∷ t) = in-front-some (is_separator b) b (cut_everywhere t)

-- a `_` with nothing behind it doesn't cut
dot-or : (x : Bool) → (x || (true && false)) ≡ (x || false)
dot-or true = refl
dot-or false = refl

-- with a `_` at its end, which is taken off and put back
pub components-low : (t : List ℕ) (u : ℕ) → is_underscore u ≡ true → (u == dot) ≡ false → components (t ++ u ∷ []) ≡ put_back (cut_everywhere t) u
components-low [] u low dot = simp (dot, low) refl
components-low (b ∷ []) u low dot =
    (λ i. in_front (cuts-more b u [] i) b (components-low [] u low dot i)) ∙ sym (put-front (is_separator b) b ([] ∷ []) u refl)
components-low (b ∷ c ∷ t) u low dot =
    (λ i. in_front (cuts-more b c (t ++ u ∷ []) i) b (components-low (c ∷ t) u low dot i)) ∙ sym (put-front (is_separator b) b (cut_everywhere (c ∷ t)) u (plain-some (c ∷ t)))

-- and without one
pub components-plain : (t : List ℕ) → ends_in_underscore t ≡ false → components t ≡ cut_everywhere t
components-plain [] e = refl
components-plain (b ∷ []) e = simp e refl
components-plain (b ∷ c ∷ t) e = (λ i. in_front (cuts-more b c t i) b (components-plain (c ∷ t) e i))
