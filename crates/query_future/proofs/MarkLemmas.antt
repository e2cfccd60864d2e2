-- Marks that are taken away.
use Rattle.std.specs.Prelude.{◌≡◌, ◌≢◌, ℕ, ◌==◌, ◌&&◌, not, cond, Bool, true, false, List, [], ◌∷◌, ◌++◌, ◌||◌, refl}
use Rattle.std.specs.List.{filter, list_any}
use Rattle.std.proofs.Common.{sym, ◌∙◌, ap, subst, inl, inr, true≢false}
use Rattle.std.proofs.lemmas.Bool.{eq-eqb}
use Rattle.closure_plan.specs.declared.need.Need.{Need}
use Rattle.closure_plan.specs.declared.need.Need.TheVariants as need
use Rattle.closure_plan.specs.Plan.{has_need, same_need, without}
use Rattle.closure_plan.proofs.MarkLemmas.{same_is}
use Rattle.flight_journal.specs.Count.{Among, IsOnce}
use Rattle.query_future.proofs.AmongLemmas.{among_mid, behind, front, front_or, nothing, once_behind, once_front}

number_itself : (n : ℕ) → (n == n) ≡ true
number_itself n = eq-eqb n n refl

pub need_itself : (m : Need) → same_need m m ≡ true
need_itself (need.Index s) = number_itself s
need_itself (need.Shard s k) = let a = number_itself s in let b = number_itself k in cc

pub has_among : (ms : List Need) (m : Need) → Among m ms → has_need ms m ≡ true
has_among [] m h = absurd (nothing m h)
has_among (x ∷ ms) m h =
    elim (front_or m x ms h) [
      | inl e ↦ (let a : same_need m x ≡ true = subst (λ z. same_need m z ≡ true) (sym e) (need_itself m) in cc)
      | inr t ↦ (let b : list_any (same_need m) ms ≡ true = has_among ms m t in or_right (same_need m x) (list_any (same_need m) ms) b)
    ]
  where
    or_right : (a b : Bool) → b ≡ true → (a || b) ≡ true
    or_right true b e = refl
    or_right false b e = e

-- a list without a need, by whether its first is that need
first_stays : (m x : Need) (ms rest : List Need) → same_need m x ≡ false → without m ms ≡ rest → without m (x ∷ ms) ≡ x ∷ rest
first_stays m x ms rest e r = ap (λ z. cond (not z) (x ∷ without m ms) (without m ms)) e ∙ ap (λ l. x ∷ l) r

-- whether two needs are one, where they are not
apart_need : (m x : Need) → (x ≡ m → ⊥) → same_need m x ≡ false
apart_need m x n = go (same_need m x) refl
  where
    go : (b : Bool) → same_need m x ≡ b → same_need m x ≡ false
    go true e = absurd (n (sym (same_is m x e)))
    go false e = e

-- what does not stand in a list is not taken out of it
without_none : (m : Need) (ms : List Need) → ¬ Among m ms → without m ms ≡ ms
without_none m [] n = refl
without_none m (x ∷ ms) n =
    first_stays m x ms ms (apart_need m x (λ e. n (subst (λ z. Among m (z ∷ ms)) (sym e) (front m ms)))) (without_none m ms (λ h. n (behind m x ms h)))

-- a need that stands once is taken out
pub without_once : (m : Need) (a b : List Need) → IsOnce (a ++ m ∷ b) → without m (a ++ m ∷ b) ≡ a ++ b
without_once m [] b o = ap (λ z. cond (not z) (m ∷ without m b) (without m b)) (need_itself m) ∙ without_none m b (once_front m b o)
without_once m (x ∷ a) b o =
    first_stays m x (a ++ m ∷ b) (a ++ b) (apart_need m x (λ e. once_front x (a ++ m ∷ b) o (subst (λ z. Among z (a ++ m ∷ b)) (sym e) (among_mid m a b)))) (without_once m a b (once_behind x (a ++ m ∷ b) o))
