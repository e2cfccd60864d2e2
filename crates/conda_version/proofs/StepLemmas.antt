-- The order of two parts, step by step: a number and the word behind it, or the end of a component.
use Rattle.std.proofs.Common.{◌≡◌, ◌==◌, ◌<◌, ◌≤◌, ◌+◌, ◌-◌, ℕ, List, [], ◌∷◌, ◌++◌, Bool, true, false, cond, length, append_assoc, refl, sym, ap, ◌∙◌, arith, inl, inr}
use Rattle.std.specs.Prelude.{◌&&◌, ◌≢◌, not, map}
use Rattle.std.proofs.lemmas.Bool.{cases_Bool}
use Rattle.std.proofs.lemmas.List.{append-nil, length-drop}
use mathlib.Core.Bool.{true≢false}
use Rattle.std.proofs.lemmas.Bool.Decides.{nat_tests}
use Rattle.std.specs.Cmp.{IsTotalOrder}
use Rattle.std.specs.Char.{is_ascii_digit}
use Rattle.std.specs.Ordering.{nat_cmp, ordering_index, ordering_then}
use Rattle.std.specs.declared.cmp.Ordering.{Ordering}
use Rattle.std.specs.declared.cmp.Ordering.TheVariants.{Less, Equal, Greater}
use Rattle.byte_text.specs.Text.{is_nil}
use Rattle.conda_version.specs.Version.{Run, components, cuts, folded, lists, number, runs, runs_from, word}
use Rattle.byte_text.specs.Decimal.{with_digit}
use Rattle.conda_version.specs.Grammar.{is_narrow}
use Rattle.conda_version.specs.Order.{first_or, lists_cmp, others, padded_cmp, run_cmp, runs_cmp}
use Rattle.conda_version.specs.Cursor.{after_digits, after_step, after_word, at_end, behind, number_from, word_at, word_len, word_run}
use Rattle.conda_version.proofs.OrderLemmas.{run_total, runs_total, padded-step}

-- the bytes of the first component, and the components behind it
abbrev pub first_component : List ℕ → List ℕ
first_component [] = []
first_component (b ∷ rest) = cond (cuts b rest) [] (b ∷ first_component rest)

-- the components behind the first
abbrev pub later_components : List ℕ → List (List ℕ)
later_components [] = []
later_components (b ∷ rest) = cond (cuts b rest) (components rest) (later_components rest)

-- the components are the first and the later ones
pub components-split : (t : List ℕ) → components t ≡ first_component t ∷ later_components t
components-split [] = refl
components-split (b ∷ rest) = elim (cases_Bool (cuts b rest)) [
  | inl cut ↦ rw cut refl
  | inr on ↦ rw (on, components-split rest) refl
]

-- the runs behind a number, and those behind a word
abbrev pub words : List ℕ → List Run
words [] = []
words (b ∷ rest) = runs_from (word (folded b ∷ [])) rest

-- the runs behind a word
abbrev pub more : List ℕ → List Run
more [] = []
more (b ∷ rest) = runs (b ∷ rest)

-- a digit cuts nothing
digit-no-cut : (b : ℕ) (rest : List ℕ) → is_ascii_digit b ≡ true → cuts b rest ≡ false
digit-no-cut b rest d = grind (arith, nat_tests)

-- a number at the front
pub number-view : (n : ℕ) (t : List ℕ) → runs_from (number n) (first_component t) ≡ number (number_from n t) ∷ words (first_component (after_digits t))
number-view n [] = refl
number-view n (b ∷ rest) = elim (cases_Bool (is_ascii_digit b)) [
  | inl d ↦ simp (d, digit-no-cut b rest d) (number-view (with_digit n b) rest)
  | inr d ↦ elim (cases_Bool (cuts b rest)) [
    | inl cut ↦ simp (d, cut) refl
    | inr on ↦ simp (d, on) refl
  ]
]

-- a number stays in its component
pub number-later : (t : List ℕ) → later_components t ≡ later_components (after_digits t)
number-later [] = refl
number-later (b ∷ rest) = elim (cases_Bool (is_ascii_digit b)) [
  | inl d ↦ simp (d, digit-no-cut b rest d) (number-later rest)
  | inr d ↦ rw d refl
]

-- no digit comes next
abbrev pub no_digit : List ℕ → Bool
no_digit [] = true
no_digit (b ∷ rest) = cond (is_ascii_digit b) false true

-- behind the digits comes none
pub after-no-digit : (t : List ℕ) → no_digit (after_digits t) ≡ true
after-no-digit [] = refl
after-no-digit (b ∷ rest) = elim (cases_Bool (is_ascii_digit b)) [
  | inl d ↦ rw d (after-no-digit rest)
  | inr d ↦ rw (d, d) refl
]

-- a word that is open, and its bytes at the front
pub word-view : (w : List ℕ) (t : List ℕ) → runs_from (word w) (first_component t) ≡ word (w ++ map folded (word_at t)) ∷ more (first_component (after_word t))
word-view w [] = rw append-nil refl
word-view w (b ∷ rest) = elim (cases_Bool (is_ascii_digit b)) [
  | inl d ↦ simp (d, digit-no-cut b rest d, append-nil) refl
  | inr d ↦ elim (cases_Bool (cuts b rest)) [
    | inl cut ↦ simp (d, cut, append-nil) refl
    | inr on ↦ simp (d, on) (word-view (w ++ folded b ∷ []) rest ∙ rw append_assoc refl)
  ]
]

-- a word stays in its component
pub word-later : (t : List ℕ) → later_components t ≡ later_components (after_word t)
word-later [] = refl
word-later (b ∷ rest) = elim (cases_Bool (is_ascii_digit b)) [
  | inl d ↦ simp (d, digit-no-cut b rest d) refl
  | inr d ↦ elim (cases_Bool (cuts b rest)) [
    | inl cut ↦ simp (d, cut) refl
    | inr on ↦ simp (d, on) (word-later rest)
  ]
]

-- the run of a word in a word's place, and what follows it
pub words-view : (t : List ℕ) → no_digit t ≡ true
    → (first_or (number 0) (words (first_component t)) ≡ word_run (word_at t)) × (others (words (first_component t)) ≡ more (first_component (after_word t)))
words-view [] e = (refl, refl)
words-view (b ∷ rest) e = elim (cases_Bool (is_ascii_digit b)) [
  | inl d ↦ absurd (true≢false (sym (rw d at e)))
  | inr d ↦ elim (cases_Bool (cuts b rest)) [
    | inl cut ↦ simp (d, cut) (refl, refl)
    | inr on ↦ simp (d, on, word-view (folded b ∷ []) rest) (refl, refl)
  ]
]

-- one element that ties with the missing one, at the end
pub end-ties : {A : Type 0} (d : A) {R : A → A → Ordering} (o : IsTotalOrder R) (x : A) → R x d ≡ Equal → (ys : List A) → padded_cmp d R (x ∷ []) ys ≡ padded_cmp d R [] ys
end-ties d o x e [] = rw e refl
end-ties d o x e (y ∷ ys) = rw (o.congr x d y e) refl

-- the same on the other side
pub ties-end : {A : Type 0} (d : A) {R : A → A → Ordering} (o : IsTotalOrder R) (x : A) → R d x ≡ Equal → (ys : List A) → padded_cmp d R ys (x ∷ []) ≡ padded_cmp d R ys []
ties-end d o x e [] = rw e refl
ties-end d o x e (y ∷ ys) = rw (o.antisymm y x, ← o.congr d x y e, ← o.antisymm y d) refl

-- no runs tie with those of no bytes, on both sides
more-runs : (c d : List ℕ) → runs_cmp (more c) (more d) ≡ runs_cmp (runs c) (runs d)
more-runs [] [] = refl
more-runs [] (y ∷ ys) = sym (end-ties (number 0) run_total (number 0) refl (runs (y ∷ ys)))
more-runs (x ∷ xs) [] = sym (ties-end (number 0) run_total (number 0) refl (runs (x ∷ xs)))
more-runs (x ∷ xs) (y ∷ ys) = refl

-- three orders in either grouping
pub then-assoc : (a b c : Ordering) → ordering_then (ordering_then a b) c ≡ ordering_then a (ordering_then b c)
then-assoc Less b c = refl
then-assoc Equal b c = refl
then-assoc Greater b c = refl

-- an order before a tie
pub then-equal : (r : Ordering) → ordering_then r Equal ≡ r
then-equal Less = refl
then-equal Equal = refl
then-equal Greater = refl

-- the runs of two first components, a number and a word further on
runs-step : (s t : List ℕ) → runs_cmp (runs (first_component s)) (runs (first_component t))
    ≡ ordering_then (nat_cmp (number_from 0 s) (number_from 0 t))
    (ordering_then (run_cmp (word_run (word_at (after_digits s))) (word_run (word_at (after_digits t))))
    (runs_cmp (runs (first_component (after_step s))) (runs (first_component (after_step t)))))
runs-step s t =
    let vs = words-view (after_digits s) (after-no-digit s) in
    let vt = words-view (after_digits t) (after-no-digit t) in
    let step = padded-step (number 0) run_total (words (first_component (after_digits s))) (words (first_component (after_digits t))) in
    (λ i. runs_cmp (number-view 0 s i) (number-view 0 t i))
    ∙ (λ i. ordering_then (then-equal (nat_cmp (number_from 0 s) (number_from 0 t)) i) (step i))
    ∙ (λ i. ordering_then (nat_cmp (number_from 0 s) (number_from 0 t)) (ordering_then (run_cmp (vs.0 i) (vt.0 i)) (runs_cmp (vs.1 i) (vt.1 i))))
    ∙ (λ i. ordering_then (nat_cmp (number_from 0 s) (number_from 0 t))
    (ordering_then (run_cmp (word_run (word_at (after_digits s))) (word_run (word_at (after_digits t))))
    (more-runs (first_component (after_step s)) (first_component (after_step t)) i)))

-- the lists of a part by its first component
pub lists-split : (t : List ℕ) → lists t ≡ runs (first_component t) ∷ map runs (later_components t)
lists-split t = ap (λ (cs : List (List ℕ)). map runs cs) (components-split t)

-- a step stays in its component
pub step-later : (t : List ℕ) → later_components t ≡ later_components (after_step t)
step-later t = number-later t ∙ word-later (after_digits t)

-- a step of the order of two parts
pub part-step : (s t : List ℕ) → lists_cmp (lists s) (lists t)
    ≡ ordering_then (nat_cmp (number_from 0 s) (number_from 0 t))
    (ordering_then (run_cmp (word_run (word_at (after_digits s))) (word_run (word_at (after_digits t))))
    (lists_cmp (lists (after_step s)) (lists (after_step t))))
part-step s t =
    let n : Ordering = nat_cmp (number_from 0 s) (number_from 0 t) in
    let w : Ordering = run_cmp (word_run (word_at (after_digits s))) (word_run (word_at (after_digits t))) in
    let r : Ordering = runs_cmp (runs (first_component (after_step s))) (runs (first_component (after_step t))) in
    let l : Ordering = lists_cmp (map runs (later_components (after_step s))) (map runs (later_components (after_step t))) in
    (λ i. lists_cmp (lists-split s i) (lists-split t i))
    ∙ (λ i. ordering_then (runs-step s t i) (lists_cmp (map runs (step-later s i)) (map runs (step-later t i))))
    ∙ then-assoc n (ordering_then w r) l
    ∙ ap (λ (o : Ordering). ordering_then n o) (then-assoc w r l)
    ∙ sym (λ i. ordering_then n (ordering_then w (lists_cmp (lists-split (after_step s) i) (lists-split (after_step t) i))))

-- the end of a component in both parts
pub part-skip : (s t : List ℕ) → at_end s ≡ true → at_end t ≡ true → lists_cmp (lists s) (lists t) ≡ lists_cmp (lists (behind s)) (lists (behind t))
part-skip [] [] a b = refl
part-skip [] (y ∷ ys) a b = rw b (sym (end-ties [] runs_total (number 0 ∷ []) refl (lists ys)))
part-skip (x ∷ xs) [] a b = rw a (sym (ties-end [] runs_total (number 0 ∷ []) refl (lists xs)))
part-skip (x ∷ xs) (y ∷ ys) a b = simp (a, b) refl

-- behind the digits is no more than before
digits-within : (t : List ℕ) → length (after_digits t) ≤ length t
digits-within [] = omega arith
digits-within (b ∷ rest) = elim (cases_Bool (is_ascii_digit b)) [
  | inl d ↦ let r = digits-within rest in simp d (omega arith)
  | inr d ↦ simp d (omega arith)
]

-- a part goes on
pub step-shorter : (s : List ℕ) → at_end s ≡ false → length (after_step s) < length s
step-shorter [] e = absurd (true≢false e)
step-shorter (b ∷ rest) e = elim (cases_Bool (is_ascii_digit b)) [
  | inl d ↦ let r = digits-within rest in simp d (omega (arith, length-drop (word_len (after_digits rest)) (after_digits rest)))
  | inr d ↦ simp (d, e) (omega (arith, length-drop (word_len rest) rest))
]

-- behind a step is no more than before
pub step-within : (s : List ℕ) → length (after_step s) ≤ length s
step-within s = omega (arith, digits-within s, length-drop (word_len (after_digits s)) (after_digits s))

-- behind a word a part is narrow too
pub narrow-step : (s : List ℕ) → is_narrow s ≡ true → is_narrow (after_word s) ≡ true
narrow-step [] e = e
narrow-step (b ∷ rest) e = elim (cases_Bool (is_ascii_digit b)) [
  | inl d ↦ simp d (simp d at e)
  | inr d ↦ elim (cases_Bool (cuts b rest)) [
    | inl cut ↦ simp (d, cut) (simp d at e)
    | inr on ↦ simp (d, on) (narrow-step rest (simp d at e))
  ]
]

-- behind a cut a part is narrow too
pub narrow-behind : (s : List ℕ) → at_end s ≡ true → is_narrow s ≡ true → is_narrow (behind s) ≡ true
narrow-behind [] a e = e
narrow-behind (b ∷ rest) a e = elim (cases_Bool (is_ascii_digit b)) [
  | inl d ↦ absurd (true≢false (sym a ∙ digit-no-cut b rest d))
  | inr d ↦ simp d at e
]

-- what a step of the code decides
pub step-decides : (s t : List ℕ) (o : Ordering) → o ≡ ordering_then (nat_cmp (number_from 0 s) (number_from 0 t)) (run_cmp (word_run (word_at (after_digits s))) (word_run (word_at (after_digits t))))
    → lists_cmp (lists s) (lists t) ≡ ordering_then o (lists_cmp (lists (after_step s)) (lists (after_step t)))
step-decides s t o e = part-step s t ∙ sym (then-assoc (nat_cmp (number_from 0 s) (number_from 0 t)) (run_cmp (word_run (word_at (after_digits s))) (word_run (word_at (after_digits t)))) (lists_cmp (lists (after_step s)) (lists (after_step t)))) ∙ sym (ap (λ (r : Ordering). ordering_then r (lists_cmp (lists (after_step s)) (lists (after_step t)))) e)

-- each turn of the code's loop goes on
pub steps-shorter : (s t : List ℕ) → (at_end s && at_end t) ≡ false → length (after_step s) + length (after_step t) < length s + length t
steps-shorter s t e = elim (cases_Bool (at_end s)) [
  | inl a ↦ omega (arith, step-shorter t (rw a at e), step-within s)
  | inr a ↦ omega (arith, step-shorter s a, step-within t)
]

-- one byte less
length-behind : (s : List ℕ) → length (behind s) ≡ length s - 1
length-behind [] = omega arith
length-behind (b ∷ rest) = omega arith

-- a cut goes on
pub behind-shorter : (s t : List ℕ) → (is_nil s && is_nil t) ≡ false → length (behind s) + length (behind t) < length s + length t
behind-shorter [] [] e = absurd (true≢false e)
behind-shorter [] (y ∷ ys) e = omega arith
behind-shorter (x ∷ xs) t e = omega (arith, length-behind t)

-- two parts that have ended tie
pub both-nil : (s t : List ℕ) → (is_nil s && is_nil t) ≡ true → lists_cmp (lists s) (lists t) ≡ Equal
both-nil [] [] e = refl
both-nil [] (y ∷ ys) e = absurd (true≢false (sym e))
both-nil (x ∷ xs) t e = absurd (true≢false (sym e))

-- an order that is no tie decides
pub then-other : (r s : Ordering) → r ≢ Equal → ordering_then r s ≡ r
then-other Less s ne = refl
then-other Equal s ne = absurd (ne refl)
then-other Greater s ne = refl

-- a step that ties goes on
pub step-tied : (s t s2 t2 : List ℕ) (o : Ordering) → o ≡ ordering_then (nat_cmp (number_from 0 s) (number_from 0 t)) (run_cmp (word_run (word_at (after_digits s))) (word_run (word_at (after_digits t))))
    → o ≡ Equal → s2 ≡ after_step s → t2 ≡ after_step t → lists_cmp (lists s) (lists t) ≡ lists_cmp (lists s2) (lists t2)
step-tied s t s2 t2 o e tie a b = step-decides s t o e ∙ ap (λ (r : Ordering). ordering_then r (lists_cmp (lists (after_step s)) (lists (after_step t)))) tie
    ∙ sym (λ i. lists_cmp (lists (a i)) (lists (b i)))

-- a step that doesn't tie decides
pub step-differs : (s t : List ℕ) (o : Ordering) → o ≡ ordering_then (nat_cmp (number_from 0 s) (number_from 0 t)) (run_cmp (word_run (word_at (after_digits s))) (word_run (word_at (after_digits t))))
    → o ≢ Equal → o ≡ lists_cmp (lists s) (lists t)
step-differs s t o e ne = sym (step-decides s t o e ∙ then-other o _ ne)

-- what `!=` of two orderings shows
pub equal_from_index : (r : Ordering) → false ≡ not (ordering_index r == 1) → r ≡ Equal
equal_from_index Less e = cc e
equal_from_index Equal e = refl
equal_from_index Greater e = cc e

-- and what it shows of two that differ
pub other_from_index : (r : Ordering) → true ≡ not (ordering_index r == 1) → r ≢ Equal
other_from_index Less e = λ h. cc h
other_from_index Equal e = cc e
other_from_index Greater e = λ h. cc h
