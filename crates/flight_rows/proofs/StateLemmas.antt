-- Entries that are still to be written.
use Rattle.std.proofs.Common.{◌≡◌, ℕ, zero, suc, ◌+◌, ◌-◌, ◌^◌, ◌<◌, ◌≤◌, min, List, [], ◌∷◌, ◌++◌, subst, Some, slice_get, ap, arith}
use Rattle.link_io.specs.Target.{IsPlain}
use Rattle.link_io.specs.declared.target.Target.{Target}
use Rattle.flight_journal.specs.State.{change, Flight}
use Rattle.flight_journal.proofs.ListLemmas.{none_in_nothing}
use Rattle.flight_rows.specs.Sight.{ArePlain}
use Rattle.flight_rows.specs.Rows.{owed_by, owed_for}

pub owed_change : (f : ℕ) (g : Flight → Flight) (xs : List Flight) (x : Flight) → slice_get xs f ≡ Some x → owed_for (change f g xs) + owed_by x ≡ owed_for xs + owed_by (g x)
owed_change f g [] x e = cc
owed_change zero g (y ∷ xs) x e = let same : y ≡ x = cc in let h : owed_by y ≡ owed_by x = ap owed_by same in let k : owed_by (g y) ≡ owed_by (g x) = ap (λ z. owed_by (g z)) same in sums (owed_by y) (owed_by x) (owed_by (g y)) (owed_by (g x)) (owed_for xs) h k
  where
    sums : (a b c d n : ℕ) → a ≡ b → c ≡ d → (c + n) + b ≡ (a + n) + d
    sums a b c d n p q = omega arith
owed_change (suc f) g (y ∷ xs) x e = sums (owed_by y) (owed_for (change f g xs)) (owed_by x) (owed_for xs) (owed_by (g x)) (owed_change f g xs x e)
  where
    sums : (a b c d n : ℕ) → b + c ≡ d + n → (a + b) + c ≡ (a + d) + n
    sums a b c d n p = omega arith

-- what a journal has room for once so much more was reserved, by a sum that stands still at its type's end
pub room_for_all : (n n' owed more sum room : ℕ) → n' ≡ n → sum ≡ min (owed + more) (2 ^ 64 - 1) → n' + sum ≤ room → room < 2 ^ 63 → n + (owed + more) ≤ room
room_for_all n n' owed more sum room same is fits bound = omega arith

-- ---- plain targets
pub none_plain : ArePlain []
none_plain place t h = absurd (none_in_nothing place t h)

pub one_plain : (t : Target) → IsPlain t → ArePlain (t ∷ [])
one_plain t plain zero u h = let same : t ≡ u = cc in subst IsPlain same plain
one_plain t plain (suc place) u h = absurd (none_in_nothing place u h)

pub plain_append : (a b : List Target) → ArePlain a → ArePlain b → ArePlain (a ++ b)
plain_append [] b first second place t h = second place t h
plain_append (x ∷ a) b first second zero t h = first zero t h
plain_append (x ∷ a) b first second (suc place) t h = plain_append a b (λ n u k. first (suc n) u k) second place t h
