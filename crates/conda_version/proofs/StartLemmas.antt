-- Which parts begin with another, step by step.
use Rattle.std.proofs.Common.{◌≡◌, ◌≢◌, ◌<◌, ◌+◌, length, ◌==◌, ℕ, List, [], ◌∷◌, ◌++◌, Bool, true, false, refl, sym, ap, ◌∙◌, arith, inl, inr}
use Rattle.std.specs.Prelude.{◌&&◌, ◌||◌, not, map}
use Rattle.std.proofs.lemmas.Bool.{cases_Bool}
use Rattle.std.proofs.lemmas.List.{take-append-drop}
use mathlib.Core.Bool.{true≢false}
use Rattle.std.proofs.lemmas.Bool.Decides.{nat_tests}
use Rattle.std.specs.Cmp.{tied_itself, tied_then}
use Rattle.std.specs.Char.{is_ascii_digit}
use Rattle.std.specs.Ordering.{is_eq, nat_cmp, ordering_index, ordering_then}
use Rattle.std.specs.declared.cmp.Ordering.{Ordering}
use Rattle.std.specs.declared.cmp.Ordering.TheVariants.{Less, Equal, Greater}
use Rattle.byte_text.specs.Text.{is_nil}
use Rattle.conda_version.specs.Version.{Run, components, continues, cuts, folded, lists, number, open_run, runs, runs_from, unless, word}
use Rattle.conda_version.specs.Order.{first_or, letters, lists_begin, others, run_begins, run_cmp, runs_cmp}
use Rattle.conda_version.specs.Cursor.{after_digits, after_step, after_word, at_end, behind, number_from, word_at, word_len, word_run}
use Rattle.conda_version.proofs.OrderLemmas.{run_total, runs_total, lists_total, padded-step, lists-alike}
use Rattle.conda_version.proofs.StepLemmas.{first_component, later_components, components-split, lists-split, words, more, words-view, number-view, after-no-digit, number-later, step-later, ties-end, then-equal, steps-shorter}

-- the bytes of a word's run
pub letters-run : (w : List ℕ) → letters (word_run w) ≡ map folded w
letters-run [] = refl
letters-run (b ∷ w) = refl

-- `&&` in either grouping
and-assoc : (a b c : Bool) → ((a && b) && c) ≡ (a && (b && c))
and-assoc true b c = refl
and-assoc false b c = refl

-- one run further on, where it isn't the last
run-further : (xs ps : List Run) (vs ms : List (List Run)) → (is_nil (others ps) && is_nil ms) ≡ false
    → lists_begin (xs ∷ vs) (ps ∷ ms) ≡ (is_eq (run_cmp (first_or (number 0) xs) (first_or (number 0) ps)) && lists_begin (others xs ∷ vs) (others ps ∷ ms))
run-further xs [] vs [] h = absurd (true≢false h)
run-further xs (p ∷ []) vs [] h = absurd (true≢false h)
run-further xs (p ∷ q ∷ ps) vs [] h = refl
run-further xs ps vs (m ∷ ms) h =
    (λ i. is_eq (padded-step (number 0) run_total xs ps i) && lists_begin vs (m ∷ ms))
    ∙ (λ i. sym (tied_then (run_cmp (first_or (number 0) xs) (first_or (number 0) ps)) (runs_cmp (others xs) (others ps))) i && lists_begin vs (m ∷ ms))
    ∙ and-assoc (is_eq (run_cmp (first_or (number 0) xs) (first_or (number 0) ps))) (is_eq (runs_cmp (others xs) (others ps))) (lists_begin vs (m ∷ ms))

-- where something follows the first, there is something
not-all : (ps : List Run) (m : Bool) → (is_nil (others ps) && m) ≡ false → (is_nil ps && m) ≡ false
not-all [] m h = h
not-all (p ∷ ps) m h = refl

-- a run in front of others leaves some
unless-some : (on : Bool) (r : Run) (later : List Run) → is_nil later ≡ false → is_nil (unless on r later) ≡ false
unless-some true r later h = h
unless-some false r later h = refl

-- a component has a run
runs-some : (c : List ℕ) (r : Run) → is_nil (runs_from r c) ≡ false
runs-some [] r = refl
runs-some (b ∷ c) r = unless-some (continues r b) r (runs_from (open_run r b) c) (runs-some c (open_run r b))

-- a part has a component
components-some : (t : List ℕ) → is_nil (components t) ≡ false
components-some t = ap is_nil (components-split t)

-- as many lists of runs as components
map-nil : (cs : List (List ℕ)) → is_nil (map runs cs) ≡ is_nil cs
map-nil [] = refl
map-nil (c ∷ cs) = refl

-- behind these bytes a run or a component follows
goes-on : (t : List ℕ) → is_nil t ≡ false → (is_nil (more (first_component t)) && is_nil (map runs (later_components t))) ≡ false
goes-on [] h = absurd (true≢false h)
goes-on (b ∷ t) h = elim (cases_Bool (cuts b t)) [
  | inl cut ↦ simp cut (map-nil (components t) ∙ components-some t)
  | inr on ↦ simp (on, runs-some (b ∷ first_component t) (number 0)) refl
]

-- no runs tie with those of no bytes
more-ties : (c : List ℕ) → runs_cmp (more c) (runs c) ≡ Equal
more-ties [] = refl
more-ties (b ∷ c) = tied_itself runs_total (runs (b ∷ c))

-- a component that is over counts as one of no bytes
more-begin : (c d : List ℕ) (vs ms : List (List Run)) → (is_nil (more d) && is_nil ms) ≡ false
    → lists_begin (more c ∷ vs) (more d ∷ ms) ≡ lists_begin (runs c ∷ vs) (runs d ∷ ms)
more-begin c d vs ms h = lists-alike (more c ∷ vs) (runs c ∷ vs) (more d ∷ ms) (λ i. ordering_then (more-ties c i) (tied_itself lists_total vs i)) ∙ right d ms h
  where
    right : (d : List ℕ) (ms : List (List Run)) → (is_nil (more d) && is_nil ms) ≡ false → lists_begin (runs c ∷ vs) (more d ∷ ms) ≡ lists_begin (runs c ∷ vs) (runs d ∷ ms)
    right [] [] h = absurd (true≢false h)
    right [] (m ∷ ms) h = λ i. is_eq (sym (ties-end (number 0) run_total (number 0) refl (runs c)) i) && lists_begin vs (m ∷ ms)
    right (b ∷ d) ms h = refl

-- a step, where something follows it
pub begins-step : (s t : List ℕ) → is_nil (after_step t) ≡ false → lists_begin (lists s) (lists t)
    ≡ (is_eq (nat_cmp (number_from 0 s) (number_from 0 t))
    && (is_eq (run_cmp (word_run (word_at (after_digits s))) (word_run (word_at (after_digits t)))) && lists_begin (lists (after_step s)) (lists (after_step t))))
begins-step s t some =
    let vs = words-view (after_digits s) (after-no-digit s) in
    let vt = words-view (after_digits t) (after-no-digit t) in
    let ls : List (List Run) = map runs (later_components s) in
    let lt : List (List Run) = map runs (later_components t) in
    let ws : List Run = words (first_component (after_digits s)) in
    let wt : List Run = words (first_component (after_digits t)) in
    let n : Bool = is_eq (nat_cmp (number_from 0 s) (number_from 0 t)) in
    let w : Bool = is_eq (run_cmp (word_run (word_at (after_digits s))) (word_run (word_at (after_digits t)))) in
    let on : (is_nil (more (first_component (after_step t))) && is_nil lt) ≡ false =
    (λ i. is_nil (more (first_component (after_step t))) && is_nil (map runs (step-later t i))) ∙ goes-on (after_step t) some in
    let on2 : (is_nil (others wt) && is_nil lt) ≡ false = (λ i. is_nil (vt.1 i) && is_nil lt) ∙ on in
    (λ i. lists_begin (lists-split s i) (lists-split t i))
    ∙ (λ i. lists_begin (number-view 0 s i ∷ ls) (number-view 0 t i ∷ lt))
    ∙ run-further (number (number_from 0 s) ∷ ws) (number (number_from 0 t) ∷ wt) ls lt (not-all wt (is_nil lt) on2)
    ∙ (λ i. is_eq ((then-equal (nat_cmp (number_from 0 s) (number_from 0 t))) i) && run-further ws wt ls lt on2 i)
    ∙ (λ i. n && (is_eq (run_cmp (vs.0 i) (vt.0 i)) && lists_begin (vs.1 i ∷ ls) (vt.1 i ∷ lt)))
    ∙ (λ i. n && (w && more-begin (first_component (after_step s)) (first_component (after_step t)) ls lt on i))
    ∙ (λ i. n && (w && lists_begin (runs (first_component (after_step s)) ∷ map runs (step-later s i)) (runs (first_component (after_step t)) ∷ map runs (step-later t i))))
    ∙ sym (λ i. n && (w && lists_begin (lists-split (after_step s) i) (lists-split (after_step t) i)))

-- `||` with nothing
or-false : (b : Bool) → (b || false) ≡ b
or-false true = refl
or-false false = refl

-- a number begins the same number alone
number-begins : (m n : ℕ) → run_begins (number m) (number n) ≡ is_eq (nat_cmp m n)
number-begins m n = or-false _ ∙ ap is_eq (then-equal (nat_cmp m n))

-- the last run is the number at the front
pub begins-number : (s t : List ℕ) → after_digits t ≡ [] → lists_begin (lists s) (lists t) ≡ is_eq (nat_cmp (number_from 0 s) (number_from 0 t))
begins-number s t e =
    let ls : List (List Run) = map runs (later_components s) in
    let ws : List Run = words (first_component (after_digits s)) in
    (λ i. lists_begin (lists-split s i) (lists-split t i))
    ∙ (λ i. lists_begin (number-view 0 s i ∷ ls) (number-view 0 t i ∷ map runs (number-later t i)))
    ∙ (λ i. lists_begin ((number (number_from 0 s) ∷ ws) ∷ ls) ((number (number_from 0 t) ∷ words (first_component (e i))) ∷ map runs (later_components (e i))))
    ∙ number-begins (number_from 0 s) (number_from 0 t)

-- a list by its first element and the others
whole-list : {A : Type 0} (d : A) (xs : List A) → is_nil xs ≡ false → xs ≡ first_or d xs ∷ others xs
whole-list d [] h = absurd (true≢false h)
whole-list d (x ∷ xs) h = refl

-- a word is there where it has bytes
words-some : (t : List ℕ) → is_nil (word_at t) ≡ false → is_nil (words (first_component t)) ≡ false
words-some [] h = h
words-some (b ∷ t) h = elim (cases_Bool (is_ascii_digit b)) [
  | inl d ↦ absurd (true≢false (simp d at h))
  | inr d ↦ elim (cases_Bool (cuts b t)) [
    | inl cut ↦ absurd (true≢false (simp (d, cut) at h))
    | inr on ↦ simp on (runs-some (first_component t) (word (folded b ∷ [])))
  ]
]

-- the last run is the word behind it
pub begins-word : (s t : List ℕ) → is_nil (word_at (after_digits t)) ≡ false → after_step t ≡ [] → lists_begin (lists s) (lists t)
    ≡ (is_eq (nat_cmp (number_from 0 s) (number_from 0 t)) && run_begins (word_run (word_at (after_digits s))) (word_run (word_at (after_digits t))))
begins-word s t some e =
    let vs = words-view (after_digits s) (after-no-digit s) in
    let vt = words-view (after_digits t) (after-no-digit t) in
    let ls : List (List Run) = map runs (later_components s) in
    let ws : List Run = words (first_component (after_digits s)) in
    let wt : List Run = words (first_component (after_digits t)) in
    let n : Bool = is_eq (nat_cmp (number_from 0 s) (number_from 0 t)) in
    let one : wt ≡ word_run (word_at (after_digits t)) ∷ [] =
    whole-list (number 0) wt (words-some (after_digits t) some) ∙ (λ i. vt.0 i ∷ vt.1 i) ∙ ap (λ (x : List ℕ). word_run (word_at (after_digits t)) ∷ more (first_component x)) e in
    (λ i. lists_begin (lists-split s i) (lists-split t i))
    ∙ (λ i. lists_begin (number-view 0 s i ∷ ls) (number-view 0 t i ∷ map runs (step-later t i)))
    ∙ (λ i. lists_begin ((number (number_from 0 s) ∷ ws) ∷ ls) ((number (number_from 0 t) ∷ one i) ∷ map runs (later_components (e i))))
    ∙ (λ i. is_eq ((then-equal (nat_cmp (number_from 0 s) (number_from 0 t))) i) && run_begins (vs.0 i) (word_run (word_at (after_digits t))))

-- the end of a component in both parts, behind which the second goes on
pub begins-skip : (s t : List ℕ) → is_nil t ≡ false → at_end s ≡ true → at_end t ≡ true → lists_begin (lists s) (lists t) ≡ lists_begin (lists (behind s)) (lists (behind t))
begins-skip s [] some a b = absurd (true≢false some)
begins-skip [] (y ∷ ys) some a b = rw b (skip (components ys) (components-some ys))
  where
    skip : (cs : List (List ℕ)) → is_nil cs ≡ false → lists_begin (lists []) ((number 0 ∷ []) ∷ map runs cs) ≡ lists_begin (lists []) (map runs cs)
    skip [] h = absurd (true≢false h)
    skip (c ∷ cs) h = lists-alike [] (lists []) (map runs (c ∷ cs)) refl
begins-skip (x ∷ xs) (y ∷ ys) some a b = simp (a, b) (skip (components ys) (components-some ys))
  where
    skip : (cs : List (List ℕ)) → is_nil cs ≡ false → lists_begin ((number 0 ∷ []) ∷ lists xs) ((number 0 ∷ []) ∷ map runs cs) ≡ lists_begin (lists xs) (map runs cs)
    skip [] h = absurd (true≢false h)
    skip (c ∷ cs) h = refl

-- what a step of the code decides
tied-eq : (o a b : Ordering) → o ≡ ordering_then a b → o ≡ Equal → (is_eq a ≡ true) × (is_eq b ≡ true)
tied-eq o Less b e t = cc
tied-eq o Equal b e t = (refl, ap is_eq (sym e ∙ t))
tied-eq o Greater b e t = cc

-- two orders that don't tie both
differs-eq : (o a b : Ordering) (c : Bool) → o ≡ ordering_then a b → o ≢ Equal → (is_eq a && (is_eq b && c)) ≡ false
differs-eq o Less b c e ne = refl
differs-eq o Equal Less c e ne = refl
differs-eq o Equal Equal c e ne = absurd (ne e)
differs-eq o Equal Greater c e ne = refl
differs-eq o Greater b c e ne = refl

-- a step that ties goes on
pub begins-tied : (s t s2 t2 : List ℕ) (o : Ordering) → o ≡ ordering_then (nat_cmp (number_from 0 s) (number_from 0 t)) (run_cmp (word_run (word_at (after_digits s))) (word_run (word_at (after_digits t))))
    → o ≡ Equal → is_nil t2 ≡ false → s2 ≡ after_step s → t2 ≡ after_step t → lists_begin (lists s) (lists t) ≡ lists_begin (lists s2) (lists t2)
begins-tied s t s2 t2 o e tie some a b =
    let both = tied-eq o (nat_cmp (number_from 0 s) (number_from 0 t)) (run_cmp (word_run (word_at (after_digits s))) (word_run (word_at (after_digits t)))) e tie in
    begins-step s t (ap is_nil (sym b) ∙ some)
    ∙ (λ i. both.0 i && (both.1 i && lists_begin (lists (sym a i)) (lists (sym b i))))

-- a step that doesn't tie decides
pub begins-differs : (s t t2 : List ℕ) (o : Ordering) → o ≡ ordering_then (nat_cmp (number_from 0 s) (number_from 0 t)) (run_cmp (word_run (word_at (after_digits s))) (word_run (word_at (after_digits t))))
    → o ≢ Equal → is_nil t2 ≡ false → t2 ≡ after_step t → lists_begin (lists s) (lists t) ≡ false
begins-differs s t t2 o e ne some b = begins-step s t (ap is_nil (sym b) ∙ some) ∙ differs-eq o (nat_cmp (number_from 0 s) (number_from 0 t)) (run_cmp (word_run (word_at (after_digits s))) (word_run (word_at (after_digits t)))) (lists_begin (lists (after_step s)) (lists (after_step t))) e ne

-- the last step of the second part
nothing-left : (t : List ℕ) → word_at t ≡ [] → after_word t ≡ [] → t ≡ []
nothing-left t a b = sym (take-append-drop (word_len t) t) ∙ (λ i. a i ++ b i)

-- `&&` with what holds
and-true : (b : Bool) → (b && true) ≡ b
and-true true = refl
and-true false = refl

-- the last step decides
pub begins-last : (s t : List ℕ) → after_step t ≡ [] → lists_begin (lists s) (lists t)
    ≡ (is_eq (nat_cmp (number_from 0 s) (number_from 0 t)) && (is_nil (word_at (after_digits t)) || run_begins (word_run (word_at (after_digits s))) (word_run (word_at (after_digits t)))))
begins-last s t e = by (word_at (after_digits t)) refl
  where
    by : (w : List ℕ) → word_at (after_digits t) ≡ w → lists_begin (lists s) (lists t)
        ≡ (is_eq (nat_cmp (number_from 0 s) (number_from 0 t)) && (is_nil (word_at (after_digits t)) || run_begins (word_run (word_at (after_digits s))) (word_run (word_at (after_digits t)))))
    by [] is = begins-number s t (nothing-left (after_digits t) is e) ∙ sym (and-true (is_eq (nat_cmp (number_from 0 s) (number_from 0 t)))) ∙ (λ i. is_eq (nat_cmp (number_from 0 s) (number_from 0 t)) && (is_nil (sym is i) || run_begins (word_run (word_at (after_digits s))) (word_run (word_at (after_digits t)))))
    by (b ∷ w) is = begins-word s t (ap is_nil is) e ∙ (λ i. is_eq (nat_cmp (number_from 0 s) (number_from 0 t)) && (is_nil (sym is i) || run_begins (word_run (word_at (after_digits s))) (word_run (word_at (after_digits t)))))

-- the second part gets shorter
pub begins-shorter : (s t : List ℕ) → is_nil t ≡ false → (not (is_nil t) && (at_end s && at_end t)) ≡ false → length (after_step s) + length (after_step t) < length s + length t
begins-shorter s [] some e = absurd (true≢false some)
begins-shorter s (b ∷ t) some e = steps-shorter s (b ∷ t) e

-- nothing behind nothing
pub step-nil : (t : List ℕ) → is_nil (after_step t) ≡ false → is_nil t ≡ false
step-nil [] h = h
step-nil (b ∷ t) h = refl

-- nothing has the length 0
pub is-nil-length : (t : List ℕ) → is_nil t ≡ (length t == 0)
is-nil-length [] = refl
is-nil-length (b ∷ t) = grind (arith, nat_tests)

-- what is nothing is the empty list
pub nil-from : (t : List ℕ) → is_nil t ≡ true → t ≡ []
nil-from [] h = refl
nil-from (b ∷ t) h = absurd (true≢false (sym h))

-- what is not so
pub not-true : (b : Bool) → not b ≡ true → b ≡ false
not-true true h = sym h
not-true false h = refl

-- what `==` of two orderings shows
pub index-eq : (r : Ordering) → (ordering_index r == 1) ≡ is_eq r
index-eq Less = refl
index-eq Equal = refl
index-eq Greater = refl
