-- A need that was marked last is marked.
use Rattle.std.proofs.Common.{◌≡◌, Bool, true, false, ◌==◌, ◌&&◌, ◌||◌, List, [], ◌∷◌, ◌++◌, refl, ap, ◌∙◌}
use Rattle.std.specs.Cmp.{unsigned_Decides}
use Rattle.closure_plan.specs.declared.need.Need.{Need}
use Rattle.closure_plan.specs.declared.need.Need.TheVariants as need
use Rattle.closure_plan.specs.Plan.{Planned, has_need, same_need}

same_itself : (m : Need) → same_need m m ≡ true
same_itself (need.Index s) = (unsigned_Decides s s).1 refl
same_itself (need.Shard s k) = ap (λ b. b && (k == k)) ((unsigned_Decides s s).1 refl) ∙ (unsigned_Decides k k).1 refl

or_right : (a b : Bool) → b ≡ true → (a || b) ≡ true
or_right true b e = refl
or_right false b e = e

marked_last : (ms : List Need) (m : Need) → has_need (ms ++ m ∷ []) m ≡ true
marked_last [] m = ap (λ b. b || false) (same_itself m)
marked_last (x ∷ xs) m = or_right (same_need m x) (has_need (xs ++ m ∷ []) m) (marked_last xs m)

-- behind a call that marks a need it is marked
pub marked_now : {P H : Type 0} (old new : Planned P H) (m : Need) → new ≡ record old { marked = old.marked ++ m ∷ [] } → has_need new.marked m ≡ true
marked_now {P} {H} old new m e = ap (λ (p : Planned P H). has_need p.marked m) e ∙ marked_last old.marked m
