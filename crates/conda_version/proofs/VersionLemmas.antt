-- The order of two versions by their parts.
use Rattle.std.proofs.Common.{◌≡◌, ℕ, List, [], ◌∷◌, refl, sym, ap, ◌∙◌}
use Rattle.std.specs.Ordering.{is_eq, nat_cmp, ordering_then}
use Rattle.std.specs.declared.cmp.Ordering.{Ordering}
use Rattle.std.specs.declared.cmp.Ordering.TheVariants.{Less, Equal, Greater}
use Rattle.std.proofs.Common.{Bool, true, false}
use Rattle.std.specs.Prelude.{◌&&◌, ◌||◌, ◌≢◌, None}
use mathlib.Core.Bool.{true≢false}
use Rattle.std.proofs.Common.{inl, inr}
use Rattle.std.proofs.lemmas.Bool.{cases_Bool}
use Rattle.byte_text.specs.Text.{is_nil}
use Rattle.conda_version.specs.Version.{Run, lists, number, runs}
use Rattle.conda_version.specs.Grammar.{first_wrong, is_no_number, parts, version_of_parts, version_of_trimmed}
use Rattle.conda_version.specs.Order.{lists_begin, lists_cmp, runs_cmp, version_cmp, version_starts_with}
use Rattle.conda_version.specs.Cursor.{number_from}
use Rattle.conda_version.specs.Meaning.{meaning, part_lists}
use Rattle.conda_version.proofs.FaultLemmas.{digits-run}
use Rattle.conda_version.specs.declared.version.Version.{Version}
use Rattle.std.specs.Cmp.{nat_cmp_total, tied_itself, tied_then}
use Rattle.std.specs.FinMap.{nat_cmp-IsAntisymmetric}
use Rattle.conda_version.proofs.OrderLemmas.{runs_total, lists-alike}
use Rattle.conda_version.proofs.StepLemmas.{lists-split, end-ties, ties-end, then-equal, then-assoc}

-- an empty part ties with none
pub part-lists : (s t : List ℕ) → lists_cmp (part_lists s) (part_lists t) ≡ lists_cmp (lists s) (lists t)
part-lists [] [] = refl
part-lists [] (y ∷ ys) = sym (end-ties [] runs_total (number 0 ∷ []) refl (lists (y ∷ ys)))
part-lists (x ∷ xs) [] = sym (ties-end [] runs_total (number 0 ∷ []) refl (lists (x ∷ xs)))
part-lists (x ∷ xs) (y ∷ ys) = refl

-- two versions are compared by epoch, main part and local part
pub version-step : (v w : Version) → version_cmp (meaning v) (meaning w)
    ≡ ordering_then (nat_cmp v.epoch w.epoch) (ordering_then (lists_cmp (lists v.main.now) (lists w.main.now)) (lists_cmp (lists v.local.now) (lists w.local.now)))
unfolding meaning version_cmp
version-step v w =
    let e : Ordering = nat_cmp v.epoch w.epoch in
    let m : Ordering = lists_cmp (lists v.main.now) (lists w.main.now) in
    (λ i. ordering_then (ordering_then ((then-equal (ordering_then e Equal) ∙ then-equal e) i) m) (part-lists v.local.now w.local.now i))
    ∙ then-assoc e m (lists_cmp (lists v.local.now) (lists w.local.now))

-- where the first two tie, the local parts decide
pub mains-tie : (v w : Version) → nat_cmp v.epoch w.epoch ≡ Equal → lists_cmp (lists v.main.now) (lists w.main.now) ≡ Equal
    → version_cmp (meaning v) (meaning w) ≡ lists_cmp (lists v.local.now) (lists w.local.now)
unfolding meaning version_cmp
mains-tie v w t e = version-step v w ∙ (λ i. ordering_then (t i) (ordering_then (e i) (lists_cmp (lists v.local.now) (lists w.local.now))))

-- where neither of two holds, the second doesn't
or-second : (a b : Bool) → (a || b) ≡ false → b ≡ false
or-second false b e = e
or-second true b e = absurd (true≢false e)

-- an epoch is one number
pub digits-epoch : (part : List ℕ) → is_no_number part ≡ false → runs part ≡ number (number_from 0 part) ∷ []
digits-epoch part e = digits-run 0 part (or-second (is_nil part) _ e)

-- a text with no wrong byte is read by its parts
pub read-on : (from : ℕ) (t : List ℕ) → is_nil t ≡ false → first_wrong t ≡ None → version_of_trimmed from t ≡ version_of_parts t (parts t)
read-on from t a b = rw (a, b) refl

-- what a version starts with, by its parts
part-begins : (s : List ℕ) (ps : List (List Run)) → lists_begin (part_lists s) ps ≡ lists_begin (lists s) ps
part-begins [] ps = lists-alike [] (lists []) ps refl
part-begins (b ∷ s) ps = refl

-- a part has components where it has bytes
nil-part : (s : List ℕ) → is_nil (part_lists s) ≡ is_nil s
nil-part [] = refl
nil-part (b ∷ s) = ap is_nil (lists-split (b ∷ s))

-- a part with bytes has its own components
part-some : (s : List ℕ) → is_nil s ≡ false → part_lists s ≡ lists s
part-some [] h = absurd (true≢false h)
part-some (b ∷ s) h = refl

-- equal numbers tie
same-number : (m n : ℕ) → m ≡ n → nat_cmp m n ≡ Equal
same-number m n e = ap (λ x. nat_cmp x n) e ∙ tied_itself nat_cmp_total n

-- what is no tie
by-order : (r : Ordering) → r ≢ Equal → is_eq r ≡ false
by-order Less ne = refl
by-order Equal ne = absurd (ne refl)
by-order Greater ne = refl

-- other numbers don't tie
other-number : (m n : ℕ) → m ≢ n → is_eq (nat_cmp m n) ≡ false
other-number m n ne = by-order (nat_cmp m n) (λ e. ne (nat_cmp-IsAntisymmetric m n e))

-- two epochs are compared as numbers
epochs : (m n : ℕ) → runs_cmp (number m ∷ []) (number n ∷ []) ≡ nat_cmp m n
epochs m n = then-equal (ordering_then (nat_cmp m n) Equal) ∙ then-equal (nat_cmp m n)

-- the first lists begin alike where the epochs are equal
release-begins : (m n : ℕ) (a b : List ℕ) → lists_begin ((number m ∷ []) ∷ lists a) ((number n ∷ []) ∷ lists b) ≡ (is_eq (nat_cmp m n) && lists_begin (lists a) (lists b))
release-begins m n a b =
    (λ i. lists_begin ((number m ∷ []) ∷ lists a) ((number n ∷ []) ∷ lists-split b i))
    ∙ (λ i. is_eq (epochs m n i) && lists_begin (lists a) (sym (lists-split b) i))

-- without a local part the main parts decide
pub starts-plain : (v p : Version) → v.epoch ≡ p.epoch → is_nil p.local.now ≡ true → version_starts_with (meaning v) (meaning p) ≡ lists_begin (lists v.main.now) (lists p.main.now)
unfolding meaning version_starts_with
starts-plain v p e none =
    rw (nil-part p.local.now ∙ none) (release-begins v.epoch p.epoch v.main.now p.main.now ∙ rw (same-number _ _ e) refl)

-- with one the main parts have to tie
pub starts-local : (v p : Version) → v.epoch ≡ p.epoch → is_nil p.local.now ≡ false
    → version_starts_with (meaning v) (meaning p) ≡ (is_eq (lists_cmp (lists v.main.now) (lists p.main.now)) && lists_begin (lists v.local.now) (lists p.local.now))
unfolding meaning version_starts_with
starts-local v p e some =
    rw (nil-part p.local.now ∙ some)
    (λ i. is_eq (ordering_then ((epochs v.epoch p.epoch ∙ same-number v.epoch p.epoch e) i) (lists_cmp (lists v.main.now) (lists p.main.now)))
    && (part-begins v.local.now (part_lists p.local.now) ∙ ap (λ (ps : List (List Run)). lists_begin (lists v.local.now) ps) (part-some p.local.now some)) i)

-- another epoch decides
pub starts-not : (v p : Version) → v.epoch ≢ p.epoch → version_starts_with (meaning v) (meaning p) ≡ false
unfolding meaning version_starts_with
starts-not v p ne = elim (cases_Bool (is_nil p.local.now)) [
  | inl none ↦ rw (nil-part p.local.now ∙ none) (release-begins v.epoch p.epoch v.main.now p.main.now ∙ rw (other-number v.epoch p.epoch ne) refl)
  | inr some ↦ rw (nil-part p.local.now ∙ some)
      ((λ i. is_eq (ordering_then (epochs v.epoch p.epoch i) (lists_cmp (lists v.main.now) (lists p.main.now))) && lists_begin (part_lists v.local.now) (part_lists p.local.now))
      ∙ (λ i. sym (tied_then (nat_cmp v.epoch p.epoch) (lists_cmp (lists v.main.now) (lists p.main.now))) i && lists_begin (part_lists v.local.now) (part_lists p.local.now))
      ∙ rw (other-number v.epoch p.epoch ne) refl)
]
