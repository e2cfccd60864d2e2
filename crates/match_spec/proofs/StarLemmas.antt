-- Builds with stars: the code's search for each piece finds what some texts for the stars give.
use Rattle.std.proofs.Common.{◌≡◌, ◌==◌, ◌+◌, ◌-◌, ◌<◌, ◌≤◌, ℕ, zero, suc, List, [], ◌∷◌, ◌++◌, Bool, true, false, length, drop, refl, sym, ap, ◌∙◌, arith, inl, inr, subst, append_assoc, length-append, get_or}
use Rattle.std.specs.Prelude.{◌||◌, ◌&&◌, ◌↔◌, not, nat_eq, nat_lt, Option, None, Some}
use Rattle.std.specs.Cmp.Lexicographic.{pointwise, unequal}
use Rattle.std.specs.List.{ends_with, prefix_len, position_or_len, take_while, before_first, after_first}
use Rattle.std.proofs.lemmas.Bool.{cases_Bool, false≢true}
use Rattle.std.proofs.lemmas.Bool.Decides.{nat_tests}
use Rattle.std.proofs.lemmas.List.{drop-append-le}
use Rattle.std.proofs.Math.Seq.{drop-append_seam}
use Rattle.std.proofs.lemmas.List.Sums.{split_at_first, passes_at_first, take_while-cons}
use Rattle.gateway_words.specs.Ascii.{asterisk}
use Rattle.byte_text.specs.Text.{begins_at, cut_at, cut_by}
use Rattle.match_spec.specs.StarBuild.{FitsBuild, behind_first, behind_start, filled, first_text, fits_build, later_texts, or_else, some_end, tail_of}

-- no byte is a star
abbrev pub NoStar : List ℕ → Type 0
NoStar [] = Unit {0}
NoStar (b ∷ rest) = ((b == asterisk) ≡ false) × NoStar rest

-- what an option's text passes, and nothing where there is none
abbrev pub passed_by : (List ℕ → Bool) → Option (List ℕ) → Bool
passed_by passes None = false
passed_by passes (Some t) = passes t

-- ---- the first star

-- none of the bytes before the first star is one
front-no-star : (t : List ℕ) → NoStar (take_while (λ b. not (b == asterisk)) t)
front-no-star [] = tt
front-no-star (b ∷ rest) = elim (cases_Bool (b == asterisk)) [
  | inl yes' ↦ rw (take_while-cons (λ c. not (c == asterisk)) b rest, yes') tt
  | inr no' ↦ rw (take_while-cons (λ c. not (c == asterisk)) b rest, no') (no', front-no-star rest)
]

-- nor is any of a text in which none was found
all-no-star : (t : List ℕ) → length t ≤ prefix_len (λ b. not (b == asterisk)) t → NoStar t
all-no-star [] h = tt
all-no-star (b ∷ rest) h = elim (cases_Bool (b == asterisk)) [
  | inl yes' ↦ absurd (let g : length (b ∷ rest) ≤ 0 = simp yes' at h in omega (arith, g))
  | inr no' ↦ (no', all-no-star rest (let g : length (b ∷ rest) ≤ 1 + prefix_len (λ c. not (c == asterisk)) rest = simp no' at h in omega (arith, g)))
]

-- the two texts of a pair that may be missing
abbrev first_of : Option (List ℕ × List ℕ) → List ℕ
first_of None = []
first_of (Some p) = p.0

abbrev second_of : Option (List ℕ × List ℕ) → List ℕ
second_of None = []
second_of (Some p) = p.1

-- a text that is cut at its first star
pub cut-some : (t : List ℕ) (q : List ℕ × List ℕ) → cut_at asterisk t ≡ Some q → (t ≡ q.0 ++ asterisk ∷ q.1) × NoStar q.0
cut-some t q e = by (nat_lt (position_or_len (λ b. b == asterisk) t) (length t)) refl
  where
    by : (found : Bool) → nat_lt (position_or_len (λ b. b == asterisk) t) (length t) ≡ found → (t ≡ q.0 ++ asterisk ∷ q.1) × NoStar q.0
    by false is = cc (rw is at e)
    by true is =
        let below : position_or_len (λ b. b == asterisk) t < length t = grind (arith, nat_tests) in
        let cut : cut_by (Some (position_or_len (λ b. b == asterisk) t)) t ≡ Some q = rw is at e in
        let front : before_first (λ b. b == asterisk) t ≡ q.0 = ap first_of cut in
        let behind : after_first (λ b. b == asterisk) t ≡ q.1 = ap second_of cut in
        let star : get_or t (position_or_len (λ b. b == asterisk) t) 0 ≡ asterisk = (let passes = passes_at_first (λ b. b == asterisk) t 0 below in grind (arith, nat_tests)) in
        let P : List ℕ → Type 0 = NoStar in
        (split_at_first (λ b. b == asterisk) t 0 below ∙ (λ i. front i ++ (star i ∷ behind i)), subst P front (front-no-star t))

-- a text in which no star is found
pub cut-none : (t : List ℕ) → cut_at asterisk t ≡ None → NoStar t
cut-none t e = by (nat_lt (position_or_len (λ b. b == asterisk) t) (length t)) refl
  where
    by : (found : Bool) → nat_lt (position_or_len (λ b. b == asterisk) t) (length t) ≡ found → NoStar t
    by true is = cc (rw is at e)
    by false is = all-no-star t (grind (arith, nat_tests))

-- ---- texts behind pieces

-- a test that an end of a text passes is passed by some end
some-here : (test : List ℕ → Bool) (t : List ℕ) → test t ≡ true → some_end test t ≡ true
some-here test [] h = h
some-here test (b ∷ rest) h = rw h refl

some-behind : (test : List ℕ → Bool) (xs t : List ℕ) → some_end test t ≡ true → some_end test (xs ++ t) ≡ true
some-behind test [] t h = h
some-behind test (x ∷ xs) t h = rw (some-behind test xs t h) (elim (test (x ∷ (xs ++ t))) as (λ b. (b || true) ≡ true) [ true ↦ refl | false ↦ refl ])

-- an end that passes a test, and what stands before it
some-parts : (test : List ℕ → Bool) (t : List ℕ) → some_end test t ≡ true → (xs : List ℕ) × (u : List ℕ) × (t ≡ xs ++ u) × (test u ≡ true)
some-parts test [] h = ([], [], refl, h)
some-parts test (b ∷ rest) h = elim (cases_Bool (test (b ∷ rest))) [
  | inl yes' ↦ ([], b ∷ rest, refl, yes')
  | inr no' ↦ (let later = some-parts test rest (rw no' at h) in (b ∷ later.0, later.1, ap (λ u. b ∷ u) later.2, later.3))
]

-- a text that begins with a piece
start-parts : (p t v : List ℕ) → behind_start p t ≡ Some v → t ≡ p ++ v
start-parts [] t v e = cc e
start-parts (a ∷ p) [] v e = cc e
start-parts (a ∷ p) (b ∷ t) v e = elim (cases_Bool (b == a)) [
  | inl yes' ↦ (let same : b ≡ a = grind (arith, nat_tests) in (λ i. same i ∷ start-parts p t v (rw yes' at e) i))
  | inr no' ↦ cc (rw no' at e)
]

-- a piece that stands at the front of a text, or behind its first byte
first-by : (p : List ℕ) (b : ℕ) (t w : List ℕ) (found : Option (List ℕ)) → behind_start p (b ∷ t) ≡ found
    → (behind_first p t ≡ Some w → (xs : List ℕ) × (t ≡ xs ++ (p ++ w)))
    → or_else found (behind_first p t) ≡ Some w → (xs : List ℕ) × (b ∷ t ≡ xs ++ (p ++ w))
first-by p b t w None is later e = (b ∷ (later e).0, ap (λ u. b ∷ u) (later e).1)
first-by p b t w (Some v) is later e = ([], start-parts p (b ∷ t) w (is ∙ e))

-- a piece that stands in a text
first-parts : (p t w : List ℕ) → behind_first p t ≡ Some w → (xs : List ℕ) × (t ≡ xs ++ (p ++ w))
first-parts p [] w e = ([], start-parts p [] w e)
first-parts p (b ∷ t) w e = first-by p b t w (behind_start p (b ∷ t)) refl (first-parts p t w) e

-- what stands behind the piece at a later place is an end of what stands behind it at the first place
later-end : (xs p v w : List ℕ) → p ++ v ≡ xs ++ (p ++ w) → (ys : List ℕ) × (v ≡ ys ++ w)
later-end xs p v w e =
    let short : length p ≤ length (xs ++ p) = omega (arith, length-append xs p) in (
      drop (length p) (xs ++ p),
      sym (drop-append_seam p v) ∙ ap (drop (length p)) (e ∙ sym (append_assoc xs p w)) ∙ drop-append-le (length p) (xs ++ p) w short,
    )

-- ---- the search

-- a build that begins with a piece and a star
pub fits-piece : (p r t : List ℕ) → NoStar p → fits_build (p ++ asterisk ∷ r) t ≡ passed_by (some_end (fits_build r)) (behind_start p t)
fits-piece [] r t n = refl
fits-piece (a ∷ p) r [] n = rw n.0 refl
fits-piece (a ∷ p) r (b ∷ t) n = elim (cases_Bool (b == a)) [
  | inl yes' ↦ rw (n.0, yes') (fits-piece p r t n.1)
  | inr no' ↦ rw (n.0, no') refl
]

-- a build without a star
pub fits-plain : (p t : List ℕ) → NoStar p → fits_build p t ≡ pointwise nat_eq p t
fits-plain [] [] n = refl
fits-plain [] (b ∷ t) n = refl
fits-plain (a ∷ p) [] n = rw n.0 refl
fits-plain (a ∷ p) (b ∷ t) n =
    let turned : (b == a) ≡ (a == b) = grind (arith, nat_tests) in
    rw (n.0, turned, fits-plain p t n.1) refl

-- where a later place would do, so does the first
later-fits : (p r t v : List ℕ) (b : ℕ) → behind_start p (b ∷ t) ≡ Some v → passed_by (some_end (fits_build r)) (behind_first p t) ≡ true → some_end (fits_build r) v ≡ true
later-fits p r t v b e h = by (behind_first p t) refl h
  where
    by : (found : Option (List ℕ)) → behind_first p t ≡ found → passed_by (some_end (fits_build r)) found ≡ true → some_end (fits_build r) v ≡ true
    by None is h' = absurd (false≢true h')
    by (Some w) is h' =
        let first = first-parts p t w is in
        let whole : p ++ v ≡ (b ∷ first.0) ++ (p ++ w) = sym (start-parts p (b ∷ t) v e) ∙ ap (λ u. b ∷ u) first.1 in
        let end = later-end (b ∷ first.0) p v w whole in
        let P : List ℕ → Type 0 = λ u. some_end (fits_build r) u ≡ true in
        subst P (sym end.1) (some-behind (fits_build r) end.0 w h')

-- one that holds where the other does
or-held : (a b : Bool) → (b ≡ true → a ≡ true) → (a || b) ≡ a
or-held true b h = refl
or-held false true h = sym (h refl)
or-held false false h = refl

-- behind a star, the first place of the next piece decides
pub some-piece : (p r t : List ℕ) → NoStar p → some_end (fits_build (p ++ asterisk ∷ r)) t ≡ passed_by (some_end (fits_build r)) (behind_first p t)
some-piece p r [] n = fits-piece p r [] n
some-piece p r (b ∷ t) n = rw (fits-piece p r (b ∷ t) n, some-piece p r t n) (by (behind_start p (b ∷ t)) refl)
  where
    by : (found : Option (List ℕ)) → behind_start p (b ∷ t) ≡ found
        → (passed_by (some_end (fits_build r)) found || passed_by (some_end (fits_build r)) (behind_first p t)) ≡ passed_by (some_end (fits_build r)) (or_else found (behind_first p t))
    by None is = refl
    by (Some v) is = or-held (some_end (fits_build r) v) (passed_by (some_end (fits_build r)) (behind_first p t)) (later-fits p r t v b is)

-- nothing is left of nothing
drop-none : (n : ℕ) → (let none : List ℕ = [] in drop n none ≡ none)
drop-none zero = refl
drop-none (suc n) = refl

-- behind the last star, the text has to end in what follows
pub some-last : (p t : List ℕ) → NoStar p → some_end (fits_build p) t ≡ ends_with nat_eq t p
some-last p [] n = fits-plain p [] n ∙ ap (pointwise nat_eq p) (sym (drop-none (0 - length p)))
some-last p (b ∷ t) n = rw (fits-plain p (b ∷ t) n, some-last p t n) (by (nat_lt (length t) (length p)) refl)
  where
    by : (over : Bool) → nat_lt (length t) (length p) ≡ over
        → (pointwise nat_eq p (b ∷ t) || pointwise nat_eq p (drop (length t - length p) t)) ≡ pointwise nat_eq p (drop (length (b ∷ t) - length p) (b ∷ t))
    by true is =
        let over : length t < length p = grind (arith, nat_tests) in
        let none : length (b ∷ t) - length p ≡ 0 = omega (arith, over) in
        let short : pointwise nat_eq p (drop (length t - length p) t) ≡ false =
        unequal nat_eq p (drop (length t - length p) t) (λ same. let e : length t - length p ≡ 0 = omega (arith, over) in let f : length p ≡ length t = rw e at same in omega (arith, over, f)) in
        rw (none, short) (elim (pointwise nat_eq p (b ∷ t)) as (λ x. (x || false) ≡ x) [ true ↦ refl | false ↦ refl ])
    by false is =
        let fits : length p ≤ length t = grind (arith, nat_tests) in
        let one : length (b ∷ t) - length p ≡ suc (length t - length p) = omega (arith, fits) in
        let long : pointwise nat_eq p (b ∷ t) ≡ false = unequal nat_eq p (b ∷ t) (λ same. let f : length p ≡ suc (length t) = same in omega (arith, fits, f)) in
        rw (one, long) refl

-- ---- texts for the stars

-- a byte is itself
itself : (b : ℕ) → (b == b) ≡ true
itself b = grind (arith, nat_tests)

-- what some texts make of a build fits it
fits-filled : (build : List ℕ) (ts : List (List ℕ)) → fits_build build (filled build ts) ≡ true
fits-filled [] ts = refl
fits-filled (b ∷ rest) ts = elim (cases_Bool (b == asterisk)) [
  | inl yes' ↦ rw yes' (some-behind (fits_build rest) (first_text ts) (filled rest (later_texts ts)) (some-here (fits_build rest) (filled rest (later_texts ts)) (fits-filled rest (later_texts ts))))
  | inr no' ↦ rw (no', itself b) (fits-filled rest ts)
]

-- a build that begins with another byte than a star
plain-fits : (a : ℕ) (rest t : List ℕ) → (a == asterisk) ≡ false → ((u : List ℕ) → fits_build rest u ≡ true → FitsBuild rest u)
    → (begins_at a t && fits_build rest (tail_of t)) ≡ true → FitsBuild (a ∷ rest) t
plain-fits a rest [] n later h = absurd (false≢true h)
plain-fits a rest (b ∷ u) n later h = elim (cases_Bool (b == a)) [
  | inl yes' ↦ (
      let same : a ≡ b = grind (arith, nat_tests) in
      let fits = later u (rw yes' at h) in
      (fits.0, rw n (λ i. same i ∷ fits.1 i)))
  | inr no' ↦ absurd (false≢true (rw no' at h))
]

-- a text that fits a build is what some texts make of it
filled-fits : (build t : List ℕ) → fits_build build t ≡ true → FitsBuild build t
filled-fits [] [] h = ([], refl)
filled-fits [] (b ∷ t) h = absurd (false≢true h)
filled-fits (a ∷ rest) t h = elim (cases_Bool (a == asterisk)) [
  | inl yes' ↦ (
      let parts = some-parts (fits_build rest) t (rw yes' at h) in
      let later = filled-fits rest parts.1 parts.3 in
      (parts.0 ∷ later.0, rw yes' (ap (λ u. parts.0 ++ u) later.1 ∙ sym parts.2)))
  | inr no' ↦ plain-fits a rest t no' (filled-fits rest) (rw no' at h)
]

-- a build fits a text exactly where each star stands for some text
pub fits-means : (build t : List ℕ) → (fits_build build t ≡ true) ↔ FitsBuild build t
fits-means build t = (filled-fits build t, λ f. let P : List ℕ → Type 0 = λ u. fits_build build u ≡ true in subst P f.1 (fits-filled build f.0))
