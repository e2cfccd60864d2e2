-- Awaited flights but one.
use Rattle.std.proofs.Common.{◌≡◌, ◌≢◌, ℕ, zero, suc, ◌==◌, ◌||◌, Bool, true, false, true≢false, if◌then◌else◌, List, [], ◌∷◌, map, Some, slice_get, refl, sym, ap, ◌∙◌, subst, ⊎_elim, eq-eqb, ne_eqb}
use Rattle.std.proofs.lemmas.Bool.{cases_eq}
use Rattle.link_io.specs.declared.target.Target.{Target}
use Rattle.flight_journal.specs.Count.{Among, IsOnce}
use Rattle.flight_journal.proofs.ListLemmas.{none_in_nothing}
use Rattle.flight_table.specs.Facts.{IsWithout, awaits_but, is_awaited}
use Rattle.flight_table.specs.Follows.{Removes}

-- ---- lists in which nothing stands twice
module _ {X : Type 0} where
  behind_head : (x : X) (xs : List X) → IsOnce (x ∷ xs) → IsOnce xs
  behind_head x xs once i j y h k = ap pred_of (once (suc i) (suc j) y h k)
    where
      pred_of : ℕ → ℕ
      pred_of zero = zero
      pred_of (suc n) = n

  head_once : (x : X) (xs : List X) → IsOnce (x ∷ xs) → ¬ Among x xs
  head_once x xs once among = apart (once zero (suc among.0) x refl among.1)
    where
      apart : zero ≡ suc among.0 → ⊥
      apart e = cc

  once_cons : (x : X) (xs : List X) → ¬ Among x xs → IsOnce xs → IsOnce (x ∷ xs)
  once_cons x xs new once zero zero y h k = refl
  once_cons x xs new once zero (suc j) y h k = let same : x ≡ y = cc in absurd (new (j, k ∙ ap Some (sym same)))
  once_cons x xs new once (suc i) zero y h k = let same : x ≡ y = cc in absurd (new (i, h ∙ ap Some (sym same)))
  once_cons x xs new once (suc i) (suc j) y h k = ap suc (once i j y h k)

-- ---- the flights of awaits
stands_with : (g : ℕ) (t : Target) (al : List (ℕ × Target)) → Among (g, t) al → Among g (map (λ a. a.0) al)
stands_with g t [] among = absurd (none_in_nothing among.0 (g, t) among.1)
stands_with g t (a ∷ al) among = split (λ n h. stands_with g t al (n, h)) among.0 among.1
  where
    split : ((n : ℕ) → slice_get al n ≡ Some (g, t) → Among g (map (λ b. b.0) al)) → (n : ℕ) → slice_get (a ∷ al) n ≡ Some (g, t) → Among g (a.0 ∷ map (λ b. b.0) al)
    split more zero h = let same : a ≡ (g, t) = cc in (zero, ap (λ (z : ℕ × Target). Some z.0) same)
    split more (suc n) h = let w = more n h in (suc w.0, w.1)

pub stands_for : (f : ℕ) (al : List (ℕ × Target)) → Among f (map (λ a. a.0) al) → (t : Target) × Among (f, t) al
stands_for f [] among = absurd (none_in_nothing among.0 f among.1)
stands_for f (a ∷ al) among = split (λ n h. stands_for f al (n, h)) among.0 among.1
  where
    split : ((n : ℕ) → slice_get (map (λ b. b.0) al) n ≡ Some f → (t : Target) × Among (f, t) al) → (n : ℕ) → slice_get (a.0 ∷ map (λ b. b.0) al) n ≡ Some f → (t : Target) × Among (f, t) (a ∷ al)
    split more zero h = let same : a.0 ≡ f = cc in (a.1, (zero, ap (λ n. Some (n, a.1)) same))
    split more (suc n) h = let w = more n h in (w.0, (suc w.1.0, w.1.1))

-- ---- what is left
pub but_same : (f g : ℕ) (t : Target) (al : List (ℕ × Target)) → g ≢ f → Among (g, t) al → Among (g, t) (awaits_but f al)
but_same f g t [] ne among = among
but_same f g t (a ∷ al) ne among = split (a.0 == f) refl among.0 among.1 (λ n h. but_same f g t al ne (n, h))
  where
    split : (b : Bool) → (a.0 == f) ≡ b → (n : ℕ) → slice_get (a ∷ al) n ≡ Some (g, t) → ((m : ℕ) → slice_get al m ≡ Some (g, t) → Among (g, t) (awaits_but f al)) → Among (g, t) (if b then awaits_but f al else a ∷ awaits_but f al)
    split true e zero h more = let same : a ≡ (g, t) = cc in absurd (true≢false (sym e ∙ ne_eqb a.0 f (λ i. ne (sym (ap (λ (z : ℕ × Target). z.0) same) ∙ i))))
    split true e (suc n) h more = more n h
    split false e zero h more = (zero, h)
    split false e (suc n) h more = let w = more n h in (suc w.0, w.1)

pub but_only : (f g : ℕ) (t : Target) (al : List (ℕ × Target)) → Among (g, t) (awaits_but f al) → Among (g, t) al × (g ≢ f)
but_only f g t [] among = absurd (none_in_nothing among.0 (g, t) among.1)
but_only f g t (a ∷ al) among = split (a.0 == f) refl among (λ w. but_only f g t al w)
  where
    at : a.0 == f ≡ false → (n : ℕ) → slice_get (a ∷ awaits_but f al) n ≡ Some (g, t) → (Among (g, t) (awaits_but f al) → Among (g, t) al × (g ≢ f)) → Among (g, t) (a ∷ al) × (g ≢ f)
    at e zero h more = let same : a ≡ (g, t) = cc in ((zero, h), λ i. true≢false (sym (eq-eqb a.0 f (ap (λ (z : ℕ × Target). z.0) same ∙ i)) ∙ e))
    at e (suc n) h more = let w = more (n, h) in ((suc w.0.0, w.0.1), w.1)

    split : (b : Bool) → (a.0 == f) ≡ b → Among (g, t) (if b then awaits_but f al else a ∷ awaits_but f al) → (Among (g, t) (awaits_but f al) → Among (g, t) al × (g ≢ f)) → Among (g, t) (a ∷ al) × (g ≢ f)
    split true e w more = let r = more w in ((suc r.0.0, r.0.1), r.1)
    split false e w more = at e w.0 w.1 more

but_flights : (f g : ℕ) (al : List (ℕ × Target)) → Among g (map (λ a. a.0) (awaits_but f al)) → Among g (map (λ a. a.0) al)
but_flights f g al among = let w = stands_for g (awaits_but f al) among in stands_with g w.0 al (but_only f g w.0 al w.1).0

pub but_once : (f : ℕ) (al : List (ℕ × Target)) → IsOnce (map (λ a. a.0) al) → IsOnce (map (λ a. a.0) (awaits_but f al))
but_once f [] once = once
but_once f (a ∷ al) once = split (a.0 == f) (but_once f al (behind_head a.0 (map (λ b. b.0) al) once))
  where
    split : (b : Bool) → IsOnce (map (λ c. c.0) (awaits_but f al)) → IsOnce (map (λ c. c.0) (if b then awaits_but f al else a ∷ awaits_but f al))
    split true rest = rest
    split false rest = once_cons a.0 (map (λ c. c.0) (awaits_but f al)) (λ w. head_once a.0 (map (λ c. c.0) al) once (but_flights f a.0 al w)) rest

pub without : (f : ℕ) (al : List (ℕ × Target)) → IsOnce (map (λ a. a.0) al) → IsWithout f al (awaits_but f al)
without f al once = record {
  same = λ g t ne among. but_same f g t al ne among;
  only = λ g t among. but_only f g t al among;
  once = but_once f al once;
}

-- ---- one goes, and no other
but_nothing : (f : ℕ) (al : List (ℕ × Target)) → ¬ Among f (map (λ a. a.0) al) → awaits_but f al ≡ al
but_nothing f [] new = refl
but_nothing f (a ∷ al) new = split (a.0 == f) refl (but_nothing f al (λ w. new (suc w.0, w.1)))
  where
    split : (b : Bool) → (a.0 == f) ≡ b → awaits_but f al ≡ al → (if b then awaits_but f al else a ∷ awaits_but f al) ≡ a ∷ al
    split true e rest = absurd (⊎_elim (λ (s : a.0 ≡ f). new (zero, ap Some s)) (λ (ne : a.0 ≢ f). true≢false (sym e ∙ ne_eqb a.0 f ne)) (cases_eq a.0 f))
    split false e rest = ap (λ l. a ∷ l) rest

pub removes : (f : ℕ) (t : Target) (al : List (ℕ × Target)) → IsOnce (map (λ a. a.0) al) → Among (f, t) al → Removes (f, t) al (awaits_but f al)
removes f t [] once among = absurd (none_in_nothing among.0 (f, t) among.1)
removes f t (a ∷ al) once among = split (a.0 == f) refl among.0 among.1 (λ n h. removes f t al (behind_head a.0 (map (λ b. b.0) al) once) (n, h))
  where
    split : (b : Bool) → (a.0 == f) ≡ b → (n : ℕ) → slice_get (a ∷ al) n ≡ Some (f, t) → ((m : ℕ) → slice_get al m ≡ Some (f, t) → Removes (f, t) al (awaits_but f al)) → Removes (f, t) (a ∷ al) (if b then awaits_but f al else a ∷ awaits_but f al)
    split true e zero h more =
        let same : a ≡ (f, t) = cc in
        record {
          front = [];
          back = al;
          was = ap (λ (z : ℕ × Target). z ∷ al) same;
          is = but_nothing f al (λ w. head_once a.0 (map (λ b. b.0) al) once (subst (λ n. Among n (map (λ b. b.0) al)) (sym (ap (λ (z : ℕ × Target). z.0) same)) w));
        }
    split true e (suc n) h more =
        let i : a.0 ≡ f = ⊎_elim (λ (s : a.0 ≡ f). s) (λ (ne : a.0 ≢ f). absurd (true≢false (sym e ∙ ne_eqb a.0 f ne))) (cases_eq a.0 f) in
        absurd (head_once a.0 (map (λ b. b.0) al) once (subst (λ m. Among m (map (λ b. b.0) al)) (sym i) (stands_with f t al (n, h))))
    split false e zero h more = let same : a ≡ (f, t) = cc in absurd (true≢false (sym (eq-eqb a.0 f (ap (λ (z : ℕ × Target). z.0) same)) ∙ e))
    split false e (suc n) h more =
        let w = more n h in
        record { front = a ∷ w.front; back = w.back; was = ap (λ l. a ∷ l) w.was; is = ap (λ l. a ∷ l) w.is }

-- ---- the test
pub awaited_by : (f : ℕ) (al : List (ℕ × Target)) → is_awaited f al ≡ true → (t : Target) × Among (f, t) al
awaited_by f [] h = absurd (true≢false (sym h))
awaited_by f (a ∷ al) h = split (a.0 == f) refl h (λ w. awaited_by f al w)
  where
    split : (b : Bool) → (a.0 == f) ≡ b → b || is_awaited f al ≡ true → (is_awaited f al ≡ true → (t : Target) × Among (f, t) al) → (t : Target) × Among (f, t) (a ∷ al)
    split true e k more =
        let i : a.0 ≡ f = ⊎_elim (λ (s : a.0 ≡ f). s) (λ (ne : a.0 ≢ f). absurd (true≢false (sym e ∙ ne_eqb a.0 f ne))) (cases_eq a.0 f) in
        (a.1, (zero, ap (λ n. Some (n, a.1)) i))
    split false e k more = let w = more k in (w.0, (suc w.1.0, w.1.1))

pub awaited_of : (f : ℕ) (t : Target) (al : List (ℕ × Target)) → Among (f, t) al → is_awaited f al ≡ true
awaited_of f t [] among = absurd (none_in_nothing among.0 (f, t) among.1)
awaited_of f t (a ∷ al) among = split among.0 among.1 (λ n h. awaited_of f t al (n, h))
  where
    either : (b c : Bool) → c ≡ true → b || c ≡ true
    either true c h = refl
    either false c h = h

    first : (b c : Bool) → b ≡ true → b || c ≡ true
    first b c h = ap (λ x. x || c) h

    split : (n : ℕ) → slice_get (a ∷ al) n ≡ Some (f, t) → ((m : ℕ) → slice_get al m ≡ Some (f, t) → is_awaited f al ≡ true) → (a.0 == f) || is_awaited f al ≡ true
    split zero h more = let same : a ≡ (f, t) = cc in first (a.0 == f) (is_awaited f al) (eq-eqb a.0 f (ap (λ (z : ℕ × Target). z.0) same))
    split (suc n) h more = either (a.0 == f) (is_awaited f al) (more n h)
