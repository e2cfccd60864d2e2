-- What a pin or a shard more leaves of a query's pins and targets.
use Rattle.std.specs.Prelude.{◌≡◌, ◌≢◌, ◌⊎◌, ℕ, zero, suc, Bool, true, false, List, [], ◌∷◌, ◌++◌, if◌then◌else◌, slice_get, slice_set, Option, Some, None, is_some, refl}
use Rattle.std.specs.List.{All}
use Rattle.std.specs.Option.{option_flatten, option_map}
use Rattle.std.proofs.Common.{sym, ◌∙◌, ap, subst, inl, inr, true≢false}
use Rattle.std.proofs.lemmas.Option.{same_Some}
use Rattle.std.proofs.lemmas.List.Elements.{All-push}
use Rattle.link_io.specs.Conn.{LinkFacts}
use Rattle.link_io.specs.declared.target.Target.{Target}
use Rattle.digest_gate.specs.declared.digest.Digest.{Digest}
use Rattle.shard_index.specs.Index as indexes
use Rattle.fetch_flight.specs.declared.verdicts.Verdict.{Verdict}
use Rattle.closure_request.specs.Request.{Asking}
use Rattle.closure_plan.specs.declared.need.Need.{Need}
use Rattle.closure_plan.specs.declared.need.Need.TheVariants as need
use Rattle.closure_plan.specs.Filling.{Fills}
use Rattle.closure_plan.specs.Given.{Pins, listed_digest, opens, pin_at, wanted}
use Rattle.closure_plan.specs.Giving.{Gave, with_pin}
use Rattle.closure_plan.specs.Names.{Name}
use Rattle.closure_plan.specs.Plan.{Known, Placed, digest_of_need, name_at, its_pins, pins_of}
use Rattle.query_needs.specs.Holders.{index_in, leaf_in}
use Rattle.query_needs.specs.Known.{IsKnown, IsLeafHeld, IsPinOf}
use Rattle.query_needs.specs.Takes.{IsNeeded, is_filled}
use Rattle.query_needs.specs.Targets.{shard_target, shards_base_of, slot_target, target_of}

-- what stands at a place of a list with another element at some place
pub get_set : {X : Type 0} (xs : List X) (i j : ℕ) (y z : X) → slice_get (slice_set xs i y) j ≡ Some z → ((j ≡ i) × (z ≡ y)) ⊎ (slice_get xs j ≡ Some z)
get_set [] i j y z e = inr e
get_set (x ∷ xs) zero zero y z e = inl (refl, sym (same_Some y z e))
get_set (x ∷ xs) zero (suc j) y z e = inr e
get_set (x ∷ xs) (suc i) zero y z e = inr e
get_set (x ∷ xs) (suc i) (suc j) y z e = elim (get_set xs i j y z e) [ inl p ↦ inl (ap suc p.0, p.1) | inr p ↦ inr p ]

get_else : {X : Type 0} (xs : List X) (i j : ℕ) (y : X) → i ≢ j → slice_get (slice_set xs i y) j ≡ slice_get xs j
get_else [] i j y n = refl
get_else (x ∷ xs) zero zero y n = absurd (n refl)
get_else (x ∷ xs) zero (suc j) y n = refl
get_else (x ∷ xs) (suc i) zero y n = refl
get_else (x ∷ xs) (suc i) (suc j) y n = get_else xs i j y (λ e. n (ap suc e))

-- a slot in which something is wanted is pinned
listed_there : (o : Option indexes.Contents) (n : Name) → is_some (listed_digest o n) ≡ true → is_some o ≡ true
listed_there None n e = absurd (true≢false (sym e))
listed_there (Some index) n e = refl

opened_there : (b : Bool) (o : Option indexes.Contents) (n : Name) → is_some (if b then listed_digest o n else None) ≡ true → is_some o ≡ true
opened_there true o n e = listed_there o n e
opened_there false o n e = absurd (true≢false (sym e))

pub wanted_pinned : (r : Asking) (pins : Pins) (s : ℕ) (n : Name) → is_some (wanted r pins s n) ≡ true → is_some (pin_at pins s) ≡ true
wanted_pinned r pins s n e = opened_there (opens r.priority r pins s n) (pin_at pins s) n e

same_target : (a b : List ℕ) (x y : Option Digest) → a ≡ b → x ≡ y → shard_target a x ≡ shard_target b y
same_target a b x y p q = cc

module _ {L : Type 0} where
  pub known_pin : (facts : L → LinkFacts) (k : Known (Verdict L) (Verdict L)) (slot : ℕ) (v : Verdict L) → IsKnown facts k → IsPinOf facts k.request slot v → IsKnown facts (with_pin slot v k)
  known_pin facts k slot v h p = record {
    formed = h.formed;
    pins = λ s w e. elim (get_set k.pins slot s (Some v) (Some w) e) [
      | inl q ↦ subst (λ t. IsPinOf facts k.request t w) (sym q.0) (subst (λ x. IsPinOf facts k.request slot x) (sym (same_Some w v q.1)) p)
      | inr q ↦ h.pins s w q
    ];
    leaves = h.leaves;
  }

  pub known_leaf : (facts : L → LinkFacts) (old new : Known (Verdict L) (Verdict L)) (slot n : ℕ) (v : Verdict L) → IsKnown facts old → Gave slot n v old new → IsLeafHeld v → IsKnown facts new
  known_leaf facts old new slot n v h g l = record {
    formed = rw g.request h.formed;
    pins = rw (g.request, g.pins) h.pins;
    leaves = rw g.leaves (All-push (λ (l : Placed (Verdict L)). IsLeafHeld l.holder) old.leaves (record { slot = slot; name = name_at old.names n; holder = v }) h.leaves l);
  }

  pub targets_pin : (k : Known (Verdict L) (Verdict L)) (slot : ℕ) (v : Verdict L) → is_filled k (need.Index slot) ≡ false → Fills index_in leaf_in (need.Index slot) k (with_pin slot v k)
      → (x : Need) → IsNeeded k x → target_of (with_pin slot v k) x ≡ target_of k x
  targets_pin k slot v f h (need.Index s) n = refl
  targets_pin k slot v f h (need.Shard s m) n =
      let there : is_some (pin_at (its_pins index_in leaf_in k) s) ≡ true = wanted_pinned k.request (its_pins index_in leaf_in k) s (name_at k.names m) n.1 in
      let apart : slot ≢ s = λ e. true≢false (sym there ∙ ap (λ t. is_some (pin_at (its_pins index_in leaf_in k) t)) (sym e) ∙ f) in
      same_target (shards_base_of (option_flatten (slice_get (slice_set k.pins slot (Some v)) s))) (shards_base_of (option_flatten (slice_get k.pins s)))
      (digest_of_need k.request (its_pins index_in leaf_in (with_pin slot v k)) k.names (need.Shard s m)) (digest_of_need k.request (its_pins index_in leaf_in k) k.names (need.Shard s m))
      (ap (λ o. shards_base_of (option_flatten o)) (get_else k.pins slot s (Some v) apart)) (h.digests (need.Shard s m) n)

  pub targets_leaf : (old new : Known (Verdict L) (Verdict L)) (slot n : ℕ) (v : Verdict L) → Gave slot n v old new → Fills index_in leaf_in (need.Shard slot n) old new
      → (x : Need) → IsNeeded old x → target_of new x ≡ target_of old x
  targets_leaf old new slot n v g h (need.Index s) m = ap (λ r. slot_target r s) g.request
  targets_leaf old new slot n v g h (need.Shard s k) m =
      same_target (shards_base_of (option_flatten (slice_get new.pins s))) (shards_base_of (option_flatten (slice_get old.pins s)))
      (digest_of_need new.request (its_pins index_in leaf_in new) new.names (need.Shard s k)) (digest_of_need old.request (its_pins index_in leaf_in old) old.names (need.Shard s k))
      (ap (λ ps. shards_base_of (option_flatten (slice_get ps s))) g.pins) (h.digests (need.Shard s k) m)
