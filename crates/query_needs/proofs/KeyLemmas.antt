-- Needs whose targets have one key have one key.
use Rattle.std.specs.Prelude.{◌≡◌, ℕ, ◌<◌, ◌&&◌, Bool, true, false, List, [], ◌∷◌, length, slice_get, Option, Some, None, is_some, refl}
use Rattle.std.specs.Option.{option_and_then, option_flatten}
use Rattle.std.specs.Str.{bytes_eq}
use Rattle.std.proofs.Common.{sym, ◌∙◌, ap, subst, true≢false}
use Rattle.std.proofs.lemmas.Option.{slice_get-get_or}
use Rattle.std.proofs.lemmas.Slice.Eq.{bytes_eq-Decides}
use Rattle.digest_gate.specs.declared.digest.Digest.{Digest}
use Rattle.link_io.specs.declared.target.Key.{Key}
use Rattle.link_io.specs.declared.target.Key.TheVariants as key
use Rattle.channel_url.specs.Addresses.{index_url}
use Rattle.channel_url.specs.Law.{IndexesAreApart}
use Rattle.fetch_flight.specs.declared.verdicts.Verdict.{Verdict}
use Rattle.closure_request.specs.Request.{Asking}
use Rattle.closure_request.specs.Slots.{slot_at}
use Rattle.closure_plan.specs.declared.need.Need.{Need}
use Rattle.closure_plan.specs.declared.need.Need.TheVariants as need
use Rattle.closure_plan.specs.Given.{wanted}
use Rattle.closure_plan.specs.Needs.{is_digest, is_key}
use Rattle.closure_plan.specs.Plan.{Known, IsNeed, its_pins, digest_of_need, name_at, wish_of}
use Rattle.query_needs.specs.Holders.{index_in, leaf_in}
use Rattle.query_needs.specs.Targets.{IsFormed, key_at, target_of, slot_target, shard_target, shards_base_of}

pub there : {A : Type 0} (o : Option A) → is_some o ≡ true → (x : A) × (o ≡ Some x)
there None e = absurd (true≢false (sym e))
there (Some x) e = (x, refl)

bytes_same : (xs : List ℕ) → bytes_eq xs xs ≡ true
bytes_same xs = (bytes_eq-Decides xs xs).1 refl

same_bytes : (xs ys : List ℕ) → xs ≡ ys → bytes_eq xs ys ≡ true
same_bytes xs ys e = subst (λ z. bytes_eq xs z ≡ true) e (bytes_same xs)

both : (a b : Bool) → a ≡ true → b ≡ true → (a && b) ≡ true
both a b p q = cc

index_apart : (url : List ℕ) (digest : Digest) → key.Index url ≡ key.Shard digest → ⊥
index_apart url digest e = cc

same_url : (a b : List ℕ) → key.Index a ≡ key.Index b → a ≡ b
same_url a b e = cc

pub same_digest : (a b : Digest) → key.Shard a ≡ key.Shard b → a ≡ b
same_digest a b e = cc

digests_same : (a b : Option Digest) (d : Digest) → a ≡ Some d → b ≡ Some d → is_digest a b ≡ true
digests_same a b d p q = subst (λ z. is_digest z b ≡ true) (sym p) (subst (λ z. is_digest (Some d) z ≡ true) (sym q) (bytes_same d.0))

module _ {L : Type 0} (k : Known (Verdict L) (Verdict L)) where
  -- the digest of the shard of a name is that which is wanted
  pub digest_is : (s n : ℕ) → n < length k.names → digest_of_need k.request (its_pins index_in leaf_in k) k.names (need.Shard s n) ≡ wanted k.request (its_pins index_in leaf_in k) s (name_at k.names n)
  digest_is s n low = ap (option_and_then (wanted k.request (its_pins index_in leaf_in k) s)) (slice_get-get_or k.names n [] low)

  -- the key of the shard of a name is the digest that is wanted
  pub shard_key : (s n : ℕ) → IsNeed k.request (its_pins index_in leaf_in k) k.names (need.Shard s n)
      → (d : Digest) × (wanted k.request (its_pins index_in leaf_in k) s (name_at k.names n) ≡ Some d) × (key_at k (need.Shard s n) ≡ key.Shard d)
  shard_key s n h =
      let w = there (wanted k.request (its_pins index_in leaf_in k) s (name_at k.names n)) h.1 in
      (w.0, w.1, ap (λ o. (shard_target (shards_base_of (option_flatten (slice_get k.pins s))) o).key) (digest_is s n h.0 ∙ w.1))

  pub one_key : IndexesAreApart → IsFormed k.request → (m n : Need)
      → IsNeed k.request (its_pins index_in leaf_in k) k.names m → IsNeed k.request (its_pins index_in leaf_in k) k.names n
      → key_at k m ≡ key_at k n → is_key k.request (its_pins index_in leaf_in k) (wish_of k.names m) (wish_of k.names n) ≡ true
  one_key apart formed (need.Index s) (need.Index t) a b e =
      let x = slot_at k.request s in
      let y = slot_at k.request t in
      let f = formed s a in
      let g = formed t b in
      let p = apart x.channel.base y.channel.base x.subdir y.subdir f.base.slashed g.base.slashed f.one_name g.one_name (same_url (index_url x.channel.base x.subdir) (index_url y.channel.base y.subdir) e) in
      both (bytes_eq x.channel.base y.channel.base) (bytes_eq x.subdir y.subdir) (same_bytes x.channel.base y.channel.base p.0) (same_bytes x.subdir y.subdir p.1)
  one_key apart formed (need.Index s) (need.Shard t b) p q e = let w = shard_key t b q in absurd (index_apart (target_of k (need.Index s)).url w.0 (e ∙ w.2))
  one_key apart formed (need.Shard s a) (need.Index t) p q e = let w = shard_key s a p in absurd (index_apart (target_of k (need.Index t)).url w.0 (sym e ∙ w.2))
  one_key apart formed (need.Shard s a) (need.Shard t b) p q e =
      let v = shard_key s a p in
      let w = shard_key t b q in
      let same : v.0 ≡ w.0 = same_digest v.0 w.0 (sym v.2 ∙ e ∙ w.2) in
      digests_same (wanted k.request (its_pins index_in leaf_in k) s (name_at k.names a)) (wanted k.request (its_pins index_in leaf_in k) t (name_at k.names b)) w.0 (v.1 ∙ ap Some same) w.1
