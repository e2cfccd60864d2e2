-- The faults of a map follow its rules.
use Rattle.std.proofs.Common.{ℕ, zero, suc, ◌++◌, ◌∷◌, [], inl, inr}
use Rattle.gateway_words.specs.Places.{Position}
use Rattle.mp_codec.specs.declared.fault.FormatFault.{FormatFault}
use Rattle.mp_codec.specs.Value.{Value, Pairs}
use Rattle.mp_codec.specs.Fault.{Faults, Then, MapRules, PairsFault, MapFault, no_map, in_pairs}

-- each fault of one set is one of the other
abbrev pub Within : Faults → Faults → Type 0
Within P Q = (here : Position) (f : FormatFault) → P here f → Q here f

-- each fault of one map's rules is one of the other's
pub record RulesWithin (P Q : MapRules) : Type 0 where
  pub key : (front : Pairs) → Within (P.key front) (Q.key front)
  pub value : (key : Value) → Within (P.value key) (Q.value key)
  pub end : (front : Pairs) → Within (P.end front) (Q.end front)

then_within : (P Q : Faults) (R S : Value → Faults) → Within P Q → ((v : Value) → Within (R v) (S v)) → Within (Then P R) (Then Q S)
then_within P Q R S a b here f (inl p) = inl (a here f p)
then_within P Q R S a b here f (inr q) = inr (q.0, q.1, q.2, b q.0 q.1 f q.3)

pairs_within : (P Q : MapRules) → RulesWithin P Q → (n : ℕ) (front : Pairs) → Within (PairsFault P front n) (PairsFault Q front n)
pairs_within P Q w zero front = w.end front
pairs_within P Q w (suc n) front =
    then_within (P.key front) (Q.key front) (λ key. Then (P.value key) (λ v. PairsFault P (front ++ (key, v) ∷ []) n)) (λ key. Then (Q.value key) (λ v. PairsFault Q (front ++ (key, v) ∷ []) n)) (w.key front)
    (λ key. then_within (P.value key) (Q.value key) (λ v. PairsFault P (front ++ (key, v) ∷ []) n) (λ v. PairsFault Q (front ++ (key, v) ∷ []) n) (w.value key)
    (λ v. pairs_within P Q w n (front ++ (key, v) ∷ [])))

pub map_within : (P Q : MapRules) → RulesWithin P Q → Within (MapFault P) (MapFault Q)
map_within P Q w here f (no_map e is) = no_map e is
map_within P Q w here f (in_pairs {there = there} {n = n} e is p) = in_pairs e is (pairs_within P Q w n [] there f p)
