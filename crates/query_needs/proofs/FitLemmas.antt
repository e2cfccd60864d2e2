-- A value under the key of a need is what the need asks for.
use Rattle.std.specs.Prelude.{◌≡◌, ◌≢◌, ℕ, Bool, true, false, Decides, slice_get, List, Option, Some, None, is_some, refl}
use Rattle.std.proofs.Common.{sym, ◌∙◌, ap, subst, inl, inr, true≢false}
use Rattle.std.proofs.lemmas.Option.{same_Some}
use Rattle.digest_gate.specs.Digest.{digest_of}
use Rattle.digest_gate.specs.declared.digest.Digest.{Digest}
use Rattle.link_io.specs.Conn.{LinkFacts}
use Rattle.link_io.specs.Target.{IsPlain}
use Rattle.link_io.specs.declared.target.Key.{Key}
use Rattle.link_io.specs.declared.target.Key.TheVariants as key
use Rattle.link_io.specs.declared.target.Target.{Target}
use Rattle.fetch_flight.specs.Made.{Wrecked}
use Rattle.fetch_flight.specs.Pin.{IsWreckOver}
use Rattle.fetch_flight.specs.Pins.{IsIndexKey}
use Rattle.fetch_flight.specs.Verdict.{key_of, size_of}
use Rattle.fetch_flight.specs.declared.verdicts.Verdict.{Verdict}
use Rattle.fetch_flight.specs.declared.verdicts.Verdict.TheVariants.{Index, Shard, Wreck}
use Rattle.closure_request.specs.Request.{Asking}
use Rattle.closure_plan.specs.declared.need.Need.TheVariants as need
use Rattle.closure_plan.specs.Filling.{GiveFills, PinFills}
use Rattle.closure_plan.specs.Giving.{Gave, with_pin}
use Rattle.closure_plan.specs.Plan.{IsReached, Known, Planned, digest_of_need, its_pins, without}
use Rattle.query_needs.specs.Holders.{IsIndex, IsShard, index_in, leaf_in}
use Rattle.query_needs.specs.Known.{IsKnown, IsLeafHeld, IsPinOf, IsSound}
use Rattle.query_needs.specs.Takes.{IsGiven, IsNeeded, Owns, is_filled}
use Rattle.query_needs.specs.Targets.{index_target, key_at, slot_target}
use Rattle.query_needs.proofs.KeyLemmas.{digest_is, same_digest, shard_key}
use Rattle.query_needs.proofs.PinLemmas.{get_set, known_leaf, known_pin, targets_leaf, targets_pin}

same_url : (a b : List ℕ) → key.Index a ≡ key.Index b → a ≡ b
same_url a b e = cc

-- a plain target under the key of an address is that of its index
abbrev of_index : List ℕ → List ℕ → Target
of_index u v = record { key = key.Index u; url = v }

plain_parts : (k : Key) (own url : List ℕ) → IsPlain (record { key = k; url = own }) → k ≡ key.Index url → record { key = k; url = own } ≡ index_target url
plain_parts (key.Index u) own url h e =
    let a : u ≡ url = same_url u url e in
    ap (λ z. of_index z own) a ∙ ap (λ z. of_index url z) (sym h ∙ a)
plain_parts (key.Shard d) own url h e = absurd (let z : ⊥ = cc in z)

plain_index : (t : Target) (url : List ℕ) → IsPlain t → t.key ≡ key.Index url → t ≡ index_target url
plain_index t url h e = plain_parts t.key t.url url h e

module _ {L : Type 0} (facts : L → LinkFacts) where
  pub pin_fits : (r : Asking) (s : ℕ) (v : Verdict L) → IsSound facts v → size_of v ≢ None → key_of v ≡ (slot_target r s).key → IsPinOf facts r s v
  pin_fits r s (Index pin) h n e = record { pin = pin; is = refl; target = plain_index pin.parcel.target (slot_target r s).url h.pin.plain e; known = h }
  pin_fits r s (Shard held) h n e = absurd (let a : held.key ≡ key.Shard (digest_of held.leaf.bytes) = h.0.key in let z : ⊥ = cc in z)
  pin_fits r s (Wreck wreck) h n e = absurd (n refl)

  pub leaf_fits : (d : Digest) (v : Verdict L) → IsSound facts v → size_of v ≢ None → key_of v ≡ key.Shard d → IsLeafHeld v
  leaf_fits d (Index pin) h n e = absurd (subst IsIndexKey e h.pin.for)
  leaf_fits d (Shard held) h n e = record { held = held; is = refl; known = h.0; rows = h.1 }
  leaf_fits d (Wreck wreck) h n e = absurd (n refl)

pub is_index : {L : Type 0} (facts : L → LinkFacts) (r : Asking) (s : ℕ) (v : Verdict L) → IsPinOf facts r s v → IsIndex v
is_index facts r s v h = subst IsIndex (sym h.is) tt

pub is_shard : {L : Type 0} (v : Verdict L) → IsLeafHeld v → IsShard v
is_shard v h = subst IsShard (sym h.is) tt

-- the bytes of a shard under the key of a need have the need's digest
pub leaf_digest : {L : Type 0} (k : Known (Verdict L) (Verdict L)) (s n : ℕ) (v : Verdict L) → IsNeeded k (need.Shard s n) → IsLeafHeld v → key_of v ≡ key_at k (need.Shard s n)
    → digest_of_need k.request (its_pins index_in leaf_in k) k.names (need.Shard s n) ≡ Some (digest_of (leaf_in v).bytes)
leaf_digest k s n v m h e =
    let w = shard_key k s n m in
    let own : key_of v ≡ key.Shard (digest_of (leaf_in v).bytes) = subst (λ x. key_of x ≡ key.Shard (digest_of (leaf_in x).bytes)) (sym h.is) h.known.key in
    digest_is k s n m.0 ∙ w.1 ∙ ap Some (same_digest w.0 (digest_of (leaf_in v).bytes) (sym w.2 ∙ sym e ∙ own))

-- whether a wreck is of a target, by whether its target equals it
pub owns_by : {L : Type 0} (facts : L → LinkFacts) (v : Verdict L) (t : Target) (wreck : Wrecked L) (b : Bool) → v ≡ Wreck wreck → IsWreckOver facts wreck → Decides b (wreck.parcel.target ≡ t) → Owns facts v t (Some b)
owns_by facts v t wreck true e h d = record { wreck = wreck; is = e; target = d.0 refl; known = h }
owns_by facts v t wreck false e h d = record { wreck = wreck; is = e; other = λ s. true≢false (sym (d.1 s)) }

module _ {L : Type 0} (facts : L → LinkFacts) where
  -- an index was pinned
  pub pinned_given : (slot : ℕ) (v : Verdict L) (old new : Planned (Verdict L) (Verdict L)) → IsKnown facts old.known → IsNeeded old.known (need.Index slot) → is_filled old.known (need.Index slot) ≡ false
      → IsPinOf facts old.known.request slot v → IsReached index_in leaf_in old.known → PinFills {P = Verdict L} {H = Verdict L} index_in leaf_in
      → new ≡ record { known = with_pin slot v old.known; marked = without (need.Index slot) old.marked }
      → IsGiven facts (need.Index slot) v old new
  pinned_given slot v old new k n f p r fills e =
      let h = fills slot v old.known r n f in
      rw e (record {
        sized = λ z. (let s : Some p.pin.size ≡ None = sym (ap size_of p.is) ∙ z in let b : ⊥ = cc in b);
        fills = h;
        targets = targets_pin old.known slot v f h;
        pins = λ s w e. elim (get_set old.known.pins slot s (Some v) (Some w) e) [ inl q ↦ inl (same_Some w v q.1) | inr q ↦ inr q ];
        known = known_pin facts old.known slot v k p;
        marked = refl;
      })

  -- a shard was given
  pub filled_given : (slot n : ℕ) (v : Verdict L) (old new : Planned (Verdict L) (Verdict L)) → IsKnown facts old.known → IsNeeded old.known (need.Shard slot n) → is_filled old.known (need.Shard slot n) ≡ false
      → IsLeafHeld v → IsReached index_in leaf_in old.known → IsReached index_in leaf_in new.known → GiveFills {P = Verdict L} {H = Verdict L} index_in leaf_in
      → Gave slot n v old.known new.known × (new.marked ≡ without (need.Shard slot n) old.marked)
      → IsGiven facts (need.Shard slot n) v old new
  filled_given slot n v old new k m f l r s fills g =
      let h = fills slot n v old.known new.known r s m f g.0 in
      record {
        sized = λ z. (let b : Some l.held.size ≡ None = sym (ap size_of l.is) ∙ z in let c : ⊥ = cc in c);
        fills = h;
        targets = targets_leaf old.known new.known slot n v g.0 h;
        pins = λ s w e. inr (subst (λ ps. slice_get ps s ≡ Some (Some w)) g.0.pins e);
        known = known_leaf facts old.known new.known slot n v k g.0 l;
        marked = g.1;
      }
