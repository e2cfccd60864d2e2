-- The order of versions is total, ties are equal runs, and versions that tie start alike.
use Rattle.std.proofs.Common.{◌≡◌, ℕ, zero, suc, List, [], ◌∷◌, Bool, true, false, get_or, refl, sym, ap, ◌∙◌, arith}
use Rattle.std.specs.Prelude.{codes, nat_eq, if◌then◌else◌}
use Rattle.std.specs.Ordering.{nat_cmp, ordering_reverse, ordering_then}
use Rattle.std.specs.Cmp.{IsTotalOrder, nat_cmp_total, on_total, then_total, then_flip, tied_itself}
use Rattle.std.specs.Cmp.Lexicographic.{nat_list_cmp_total, pointwise, slice_cmp}
use Rattle.std.specs.FinMap.{IsAntisymmetric, nat_cmp-IsAntisymmetric, slice_cmp-IsAntisymmetric}
use Rattle.std.specs.declared.cmp.Ordering.{Ordering}
use Rattle.std.specs.declared.cmp.Ordering.TheVariants.{Less, Equal, Greater}
use Rattle.conda_version.specs.Version.{Run, Value, number, word}
use Rattle.conda_version.specs.Order.{amount, begins_by, first_or, letters, lists_begin, lists_cmp, others, padded_cmp, rank, run_begins, run_cmp, runs_begin, runs_cmp, version_cmp, version_starts_with, word_rank}
use Rattle.conda_version.specs.OrderLaws.{HaveSameRuns, run_at}

-- where two orders tie, the first does
pub then_first : (r s : Ordering) → ordering_then r s ≡ Equal → r ≡ Equal
then_first Less s e = cc e
then_first Equal s e = refl
then_first Greater s e = cc e

-- and the second does
pub then_second : (r s : Ordering) → ordering_then r s ≡ Equal → s ≡ Equal
then_second Less s e = cc e
then_second Equal s e = e
then_second Greater s e = cc e

-- the order of runs is total
pub run_total : IsTotalOrder run_cmp
run_total = then_total (on_total rank nat_cmp_total) (then_total (on_total amount nat_cmp_total) (on_total letters nat_list_cmp_total))

-- a word has another rank than a number
rank-by : (is_dev is_post : Bool) → ◌≡◌ {A = ℕ} (if is_dev then 0 else if is_post then 3 else 1) 2 → ⊥
rank-by true p e = absurd (omega arith)
rank-by false true e = absurd (omega arith)
rank-by false false e = absurd (omega arith)

-- no word has the rank of numbers
word-rank-not : (w : List ℕ) → word_rank w ≡ 2 → ⊥
word-rank-not w e = rank-by (pointwise nat_eq w (codes "dev")) (pointwise nat_eq w (codes "post")) e

-- runs that tie are equal
pub run-anti : IsAntisymmetric run_cmp
run-anti (number m) (number n) e = ap number (nat_cmp-IsAntisymmetric m n (then_first (nat_cmp m n) Equal e))
run-anti (number m) (word w) e = absurd (word-rank-not w (sym (nat_cmp-IsAntisymmetric 2 (word_rank w) (then_first (nat_cmp 2 (word_rank w)) _ e))))
run-anti (word v) (number n) e = absurd (word-rank-not v (nat_cmp-IsAntisymmetric (word_rank v) 2 (then_first (nat_cmp (word_rank v) 2) _ e)))
run-anti (word v) (word w) e = ap word (slice_cmp-IsAntisymmetric nat_cmp-IsAntisymmetric v w (then_second (nat_cmp (word_rank v) (word_rank w)) (slice_cmp nat_cmp v w) e))

module _ {A : Type 0} (d : A) {R : A → A → Ordering} (o : IsTotalOrder R) where
  -- a step of "first, then the rest"
  chain_by : (x y z : A) (p q s : Ordering) → (p ≡ Less → q ≡ Less → s ≡ Less) → (k m : Ordering) → R x y ≡ k → R y z ≡ m → ordering_then k p ≡ Less → ordering_then m q ≡ Less → ordering_then (R x z) s ≡ Less
  chain_by x y z p q s f Less Less a b h g = rw (o.trans x y z a b) refl
  chain_by x y z p q s f Less Equal a b h g = rw (o.antisymm x z, ← o.congr y z x b, ← o.antisymm x y, a) refl
  chain_by x y z p q s f Equal Less a b h g = rw (o.congr x y z a, b) refl
  chain_by x y z p q s f Equal Equal a b h g = rw (o.congr x y z a, b) (f h g)
  chain_by x y z p q s f Greater m a b h g = cc h
  chain_by x y z p q s f k Greater a b h g = cc g

  -- a step of "below", from one to the next
  chain_step : (x y z : A) (p q s : Ordering) → (p ≡ Less → q ≡ Less → s ≡ Less) → ordering_then (R x y) p ≡ Less → ordering_then (R y z) q ≡ Less → ordering_then (R x z) s ≡ Less
  chain_step x y z p q s f = chain_by x y z p q s f (R x y) (R y z) refl refl

  -- a step of "ties", from one to the next
  level_step : (x y z : A) (p s t : Ordering) → (p ≡ Equal → s ≡ t) → ordering_then (R x y) p ≡ Equal → ordering_then (R x z) s ≡ ordering_then (R y z) t
  level_step x y z p s t f h = rw (o.congr x y z (then_first (R x y) p h), f (then_second (R x y) p h)) refl

  -- the padding ties with itself
  itself : R d d ≡ Equal
  itself = tied_itself o d

  -- turned round, the order is the reverse
  turned : (xs ys : List A) → padded_cmp d R xs ys ≡ ordering_reverse (padded_cmp d R ys xs)
  turned [] [] = refl
  turned [] (y ∷ ys) = (λ i. ordering_then (o.antisymm d y i) (turned [] ys i)) ∙ then_flip _ _
  turned (x ∷ xs) [] = (λ i. ordering_then (o.antisymm x d i) (turned xs [] i)) ∙ then_flip _ _
  turned (x ∷ xs) (y ∷ ys) = (λ i. ordering_then (o.antisymm x y i) (turned xs ys i)) ∙ then_flip _ _

  -- the order is transitive
  chain : (xs ys zs : List A) → padded_cmp d R xs ys ≡ Less → padded_cmp d R ys zs ≡ Less → padded_cmp d R xs zs ≡ Less
  chain [] [] zs h g = cc
  chain [] (y ∷ ys) [] h g = rw itself at (chain_step d y d _ _ _ (chain [] ys []) h g)
  chain [] (y ∷ ys) (z ∷ zs) h g = chain_step d y z _ _ _ (chain [] ys zs) h g
  chain (x ∷ xs) [] [] h g = cc
  chain (x ∷ xs) [] (z ∷ zs) h g = chain_step x d z _ _ _ (chain xs [] zs) h g
  chain (x ∷ xs) (y ∷ ys) [] h g = chain_step x y d _ _ _ (chain xs ys []) h g
  chain (x ∷ xs) (y ∷ ys) (z ∷ zs) h g = chain_step x y z _ _ _ (chain xs ys zs) h g

  -- what ties compares alike
  level : (xs ys zs : List A) → padded_cmp d R xs ys ≡ Equal → padded_cmp d R xs zs ≡ padded_cmp d R ys zs
  level [] [] zs h = refl
  level [] (y ∷ ys) [] h = rw itself at (level_step d y d _ _ _ (level [] ys []) h)
  level [] (y ∷ ys) (z ∷ zs) h = level_step d y z _ _ _ (level [] ys zs) h
  level (x ∷ xs) [] [] h = h
  level (x ∷ xs) [] (z ∷ zs) h = level_step x d z _ _ _ (level xs [] zs) h
  level (x ∷ xs) (y ∷ ys) [] h = level_step x y d _ _ _ (level xs ys []) h
  level (x ∷ xs) (y ∷ ys) (z ∷ zs) h = level_step x y z _ _ _ (level xs ys zs) h

  -- the padded order is total
  pub padded_total : IsTotalOrder (padded_cmp d R)
  padded_total = record { antisymm = turned; trans = chain; congr = level }

  -- the first ones tie, and what follows them
  pub padded-step : (xs ys : List A) → padded_cmp d R xs ys ≡ ordering_then (R (first_or d xs) (first_or d ys)) (padded_cmp d R (others xs) (others ys))
  padded-step [] [] = rw itself refl
  padded-step [] (y ∷ ys) = refl
  padded-step (x ∷ xs) [] = refl
  padded-step (x ∷ xs) (y ∷ ys) = refl

  -- what ties begins alike
  pub begins-alike : (last : A → A → Bool) → ((x y p : A) → R x y ≡ Equal → last x p ≡ last y p)
      → (xs ys ps : List A) → padded_cmp d R xs ys ≡ Equal → begins_by d R last xs ps ≡ begins_by d R last ys ps
  begins-alike last f xs ys [] e = refl
  begins-alike last f xs ys (p ∷ []) e = f _ _ p (then_first _ _ (sym (padded-step xs ys) ∙ e))
  begins-alike last f xs ys (p ∷ q ∷ ps) e =
      let first = then_first _ _ (sym (padded-step xs ys) ∙ e) in
      let rest = then_second _ _ (sym (padded-step xs ys) ∙ e) in
      rw (o.congr _ _ p first, begins-alike last f (others xs) (others ys) (q ∷ ps) rest) refl

  -- a tie is a tie at each place
  pub padded-ties : (xs ys : List A) → padded_cmp d R xs ys ≡ Equal → (k : ℕ) → R (get_or xs k d) (get_or ys k d) ≡ Equal
  padded-ties [] [] e k = itself
  padded-ties [] (y ∷ ys) e zero = then_first _ _ e
  padded-ties [] (y ∷ ys) e (suc k) = padded-ties [] ys (then_second _ _ e) k
  padded-ties (x ∷ xs) [] e zero = then_first _ _ e
  padded-ties (x ∷ xs) [] e (suc k) = padded-ties xs [] (then_second _ _ e) k
  padded-ties (x ∷ xs) (y ∷ ys) e zero = then_first _ _ e
  padded-ties (x ∷ xs) (y ∷ ys) e (suc k) = padded-ties xs ys (then_second _ _ e) k

  -- a tie at each place is a tie
  pub ties-padded : (xs ys : List A) → ((k : ℕ) → R (get_or xs k d) (get_or ys k d) ≡ Equal) → padded_cmp d R xs ys ≡ Equal
  ties-padded [] [] f = refl
  ties-padded [] (y ∷ ys) f = rw (f 0, ties-padded [] ys (λ k. f (suc k))) refl
  ties-padded (x ∷ xs) [] f = rw (f 0, ties-padded xs [] (λ k. f (suc k))) refl
  ties-padded (x ∷ xs) (y ∷ ys) f = rw (f 0, ties-padded xs ys (λ k. f (suc k))) refl

-- the order of components is total
pub runs_total : IsTotalOrder runs_cmp
runs_total = padded_total (number 0) run_total

-- the order of lists of components is total
pub lists_total : IsTotalOrder lists_cmp
lists_total = padded_total [] runs_total

-- the order of versions is total
pub version_total : IsTotalOrder version_cmp
unfolding version_cmp
version_total = then_total (on_total (λ (v : Value). v.release) lists_total) (on_total (λ (v : Value). v.local) lists_total)

-- versions that tie have the same runs, with 0 for what is missing
pub lists-same : (xs ys : List (List Run)) → lists_cmp xs ys ≡ Equal → (k j : ℕ) → run_at xs k j ≡ run_at ys k j
lists-same xs ys e k j = run-anti _ _ (padded-ties (number 0) run_total (get_or xs k []) (get_or ys k []) (padded-ties [] runs_total xs ys e k) j)

-- lists with the same runs tie
pub same-lists : (xs ys : List (List Run)) → ((k j : ℕ) → run_at xs k j ≡ run_at ys k j) → lists_cmp xs ys ≡ Equal
same-lists xs ys f = ties-padded [] runs_total xs ys (λ k. ties-padded (number 0) run_total (get_or xs k []) (get_or ys k []) (λ j. ap (λ r. run_cmp r (run_at ys k j)) (f k j) ∙ tied_itself run_total (run_at ys k j)))

-- runs that tie begin alike
run-alike : (x y p : Run) → run_cmp x y ≡ Equal → run_begins x p ≡ run_begins y p
run-alike x y p e = ap (λ r. run_begins r p) (run-anti x y e)

-- components that tie begin alike
runs-alike : (xs ys ps : List Run) → runs_cmp xs ys ≡ Equal → runs_begin xs ps ≡ runs_begin ys ps
runs-alike = begins-alike (number 0) run_total run_begins run-alike

-- lists that tie begin alike
pub lists-alike : (xs ys ps : List (List Run)) → lists_cmp xs ys ≡ Equal → lists_begin xs ps ≡ lists_begin ys ps
lists-alike = begins-alike [] runs_total runs_begin runs-alike

-- versions that tie start alike
pub versions-start-alike : (v w p : Value) → version_cmp v w ≡ Equal → version_starts_with v p ≡ version_starts_with w p
unfolding version_cmp version_starts_with
versions-start-alike v w p e =
    let release = then_first _ _ e in
    let local = then_second _ _ e in
    rw (lists_total.congr v.release w.release p.release release, lists-alike v.release w.release p.release release, lists-alike v.local w.local p.local local) refl

-- versions that tie have the same runs
pub ties-same : (v w : Value) → version_cmp v w ≡ Equal → HaveSameRuns v w
unfolding version_cmp
ties-same v w e = record {
  release = lists-same v.release w.release (then_first (lists_cmp v.release w.release) (lists_cmp v.local w.local) e);
  local = lists-same v.local w.local (then_second (lists_cmp v.release w.release) (lists_cmp v.local w.local) e);
}

-- versions with the same runs tie
pub same-ties : (v w : Value) → HaveSameRuns v w → version_cmp v w ≡ Equal
unfolding version_cmp
same-ties v w h = (λ i. ordering_then (same-lists v.release w.release h.release i) (same-lists v.local w.local h.local i))
