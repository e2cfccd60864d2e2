-- A parcel comes to one verdict.
use Rattle.std.proofs.Common.{◌≡◌, ◌⊎◌, inl, inr, ℕ, Bool, true, false, List, length, drop, Option, None, Some, Ok, Err, Result, refl, sym, ◌∙◌, ap, subst}
use Rattle.digest_gate.specs.declared.digest.Digest.{Digest}
use Rattle.digest_gate.specs.Digest.{digest_of}
use Rattle.mp_codec.specs.declared.fault.FormatFault.{FormatFault}
use Rattle.mp_codec.proofs.FirstLemmas.{one_first}
use Rattle.shard_file.specs.Rows.{Row, ShardOf, ShardFault}
use Rattle.shard_file.proofs.ShardLemmas.{one_shard}
use Rattle.shard_index.specs.Index.{Contents, IndexOf, IndexFault}
use Rattle.shard_index.proofs.IndexLemmas.{one_index}
use Rattle.link_io.specs.declared.target.Key.{Key}
use Rattle.link_io.specs.declared.target.Key.TheVariants as key
use Rattle.link_io.specs.declared.address.UrlFault.{UrlFault}
use Rattle.link_io.specs.Parcel.{Packed}
use Rattle.http_head.specs.declared.reply.Frame.{Frame}
use Rattle.http_head.specs.declared.reply.Reply.{Reply}
use Rattle.http_head.specs.declared.reply.Reply.TheVariants as reply
use Rattle.http_head.specs.Reply.{HasBody, framed_bytes}
use Rattle.http_head.proofs.ReplyLemmas.{one-reply}
use Rattle.channel_url.specs.Addresses.{shards_base}
use Rattle.fetch_flight.specs.declared.causes.Cause.{Cause}
use Rattle.fetch_flight.specs.declared.causes.Cause.TheVariants as cause
use Rattle.fetch_flight.specs.declared.causes.Malformed.TheVariants as malformed
use Rattle.fetch_flight.specs.declared.verdicts.Verdict.{Verdict}
use Rattle.fetch_flight.specs.declared.verdicts.Verdict.TheVariants as verdict
use Rattle.fetch_flight.specs.Made.{Pinned, Held}
use Rattle.fetch_flight.specs.Cause.{cause_of_reply, IsBadShard, IsBadIndex, IsBadAt, IsReplyCause, IsBodyCause, IsCause}
use Rattle.fetch_flight.specs.Pins.{IsIndexKey, IsPin}
use Rattle.fetch_flight.specs.Verdict.{IsHeldOf, IsVerdict}

-- ---- one of each thing

-- bytes have one body
pub one-body : (received : List ℕ) (ended : Bool) (a b : List ℕ) → HasBody received ended a → HasBody received ended b → a ≡ b
one-body received ended a b x y =
    let same : ◌≡◌ {A = Reply} (reply.Body x.len x.framed) (reply.Body y.len y.framed) = one-reply received ended _ _ x.decided.is y.decided.is in
    let len : x.len ≡ y.len = cc in
    let framed : x.framed ≡ y.framed = cc in
    x.is ∙ ap (λ (n : ℕ). framed_bytes x.framed (drop n received)) len ∙ ap (λ (f : Frame). framed_bytes f (drop y.len received)) framed ∙ sym y.is

-- ---- one cause

-- a bad shard is bad in one way
one-bad-shard : (digest : Digest) (body : List ℕ) (c d : Cause) → IsBadShard digest body c → IsBadShard digest body d → c ≡ d
one-bad-shard digest body (cause.Digest want got) (cause.Digest asked has) x y =
    let wants : want ≡ asked = x.0 ∙ sym y.0 in
    let gots : got ≡ has = x.1 ∙ sym y.1 in
    λ i. cause.Digest (wants i) (gots i)
one-bad-shard digest body (cause.Digest want got) (cause.Malformed (malformed.Format f)) x y = absurd (x.2 y.0)
one-bad-shard digest body (cause.Malformed (malformed.Format f)) (cause.Digest want got) x y = absurd (y.2 x.0)
one-bad-shard digest body (cause.Malformed (malformed.Format f)) (cause.Malformed (malformed.Format g)) x y =
    ap (λ (h : FormatFault). cause.Malformed (malformed.Format h)) (one_first (ShardFault body) f g x.1 y.1)
one-bad-shard digest body (cause.Digest want got) d x y = absurd y
one-bad-shard digest body (cause.Malformed (malformed.Format f)) d x y = absurd y
one-bad-shard digest body c d x y = absurd x

-- a bad index is bad in one way
one-bad-index : (url body : List ℕ) (c d : Cause) → IsBadIndex url body c → IsBadIndex url body d → c ≡ d
one-bad-index url body (cause.Malformed (malformed.Format f)) (cause.Malformed (malformed.Format g)) x y =
    ap (λ (h : FormatFault). cause.Malformed (malformed.Format h)) (one_first (IndexFault body) f g x y)
one-bad-index url body (cause.Malformed (malformed.Format f)) (cause.Malformed (malformed.Base g)) x y = absurd (y.1.no_fault f x.stands)
one-bad-index url body (cause.Malformed (malformed.Base f)) (cause.Malformed (malformed.Format g)) x y = absurd (x.1.no_fault g y.stands)
one-bad-index url body (cause.Malformed (malformed.Base f)) (cause.Malformed (malformed.Base g)) x y =
    let same : x.0 ≡ y.0 = one_index body x.0 y.0 x.1 y.1 in
    let faults : ◌≡◌ {A = Result (List ℕ) UrlFault} (Err f) (Err g) = sym x.2 ∙ ap (λ (c : Contents). shards_base url c.info.shards_base_url) same ∙ y.2 in
    let fault : f ≡ g = cc in
    ap (λ (h : UrlFault). cause.Malformed (malformed.Base h)) fault
one-bad-index url body (cause.Malformed (malformed.Format f)) d x y = absurd y
one-bad-index url body (cause.Malformed (malformed.Base f)) d x y = absurd y
one-bad-index url body c d x y = absurd x

one-bad-at : (k : Key) (url body : List ℕ) (c d : Cause) → IsBadAt k url body c → IsBadAt k url body d → c ≡ d
one-bad-at (key.Shard digest) url body c d x y = one-bad-shard digest body c d x y
one-bad-at (key.Index own) url body c d x y = one-bad-index url body c d x y

-- a reply that has a body is no cause
body-no-cause : {L : Type 0} (p : Packed L) (body : List ℕ) (c : Cause) → HasBody p.received p.ended body → IsReplyCause p c → ⊥
body-no-cause p body c x y =
    let same : ◌≡◌ {A = Reply} (reply.Body x.len x.framed) y.reply = one-reply p.received p.ended _ _ x.decided.is y.decided.is in
    let none : ◌≡◌ {A = Option Cause} None (Some c) = ap cause_of_reply same ∙ y.is in
    absurd (cc)

-- a parcel has one cause
pub one-cause : {L : Type 0} (p : Packed L) (c d : Cause) → IsCause p c → IsCause p d → c ≡ d
one-cause p c d (inl x) (inl y) = x.1 ∙ sym y.1
one-cause p c d (inl x) (inr y) = absurd (let both : ◌≡◌ {A = Bool} true false = sym x.0 ∙ y.0 in cc)
one-cause p c d (inr x) (inl y) = absurd (let both : ◌≡◌ {A = Bool} true false = sym y.0 ∙ x.0 in cc)
one-cause p c d (inr x) (inr y) = by x.1 y.1
  where
    by : IsReplyCause p c ⊎ IsBodyCause p c → IsReplyCause p d ⊎ IsBodyCause p d → c ≡ d
    by (inl a) (inl b) =
        let same : a.reply ≡ b.reply = one-reply p.received p.ended a.reply b.reply a.decided.is b.decided.is in
        let both : ◌≡◌ {A = Option Cause} (Some c) (Some d) = sym a.is ∙ ap cause_of_reply same ∙ b.is in
        cc
    by (inl a) (inr b) = absurd (body-no-cause p b.body c b.has a)
    by (inr a) (inl b) = absurd (body-no-cause p a.body d a.has b)
    by (inr a) (inr b) =
        let same : a.body ≡ b.body = one-body p.received p.ended a.body b.body a.has b.has in
        one-bad-at p.target.key p.target.url b.body c d (subst (λ (l : List ℕ). IsBadAt p.target.key p.target.url l c) same a.bad) b.bad

-- ---- no cause beside a value

index-not-bad : (url body : List ℕ) (contents : Contents) (base : List ℕ) (c : Cause) → IndexOf body contents → shards_base url contents.info.shards_base_url ≡ Ok base → IsBadIndex url body c → ⊥
index-not-bad url body contents base (cause.Malformed (malformed.Format f)) is joins x = is.no_fault f x.stands
index-not-bad url body contents base (cause.Malformed (malformed.Base f)) is joins x =
    let same : x.0 ≡ contents = one_index body x.0 contents x.1 is in
    let both : ◌≡◌ {A = Result (List ℕ) UrlFault} (Err f) (Ok base) = sym x.2 ∙ ap (λ (c : Contents). shards_base url c.info.shards_base_url) same ∙ joins in
    absurd (cc)
index-not-bad url body contents base c is joins x = x

index-not-bad-at : (k : Key) (url body : List ℕ) (contents : Contents) (base : List ℕ) (c : Cause) → IsIndexKey k → IndexOf body contents → shards_base url contents.info.shards_base_url ≡ Ok base → IsBadAt k url body c → ⊥
index-not-bad-at (key.Index own) url body contents base c for is joins x = index-not-bad url body contents base c is joins x
index-not-bad-at (key.Shard digest) url body contents base c for is joins x = for

shard-not-bad : (body : List ℕ) (rows : List Row) (c : Cause) → ShardOf body rows → IsBadShard (digest_of body) body c → ⊥
shard-not-bad body rows (cause.Digest want got) is x = x.2 refl
shard-not-bad body rows (cause.Malformed (malformed.Format f)) is x = is.no_fault f x.1.stands
shard-not-bad body rows c is x = x

-- an index has no cause
pub pin-no-cause : {L : Type 0} (pin : Pinned L) (c : Cause) → IsPin pin → IsCause pin.parcel c → ⊥
pin-no-cause pin c x (inl y) = let both : ◌≡◌ {A = Bool} true false = sym y.0 ∙ x.whole in absurd (cc)
pin-no-cause pin c x (inr y) = by y.1
  where
    by : IsReplyCause pin.parcel c ⊎ IsBodyCause pin.parcel c → ⊥
    by (inl a) = body-no-cause pin.parcel x.body c x.has a
    by (inr b) =
        let same : b.body ≡ x.body = one-body pin.parcel.received pin.parcel.ended b.body x.body b.has x.has in
        index-not-bad-at pin.parcel.target.key pin.parcel.target.url x.body pin.index pin.shards_base c x.for x.index x.base
        (subst (λ (l : List ℕ). IsBadAt pin.parcel.target.key pin.parcel.target.url l c) same b.bad)

-- neither has a shard
pub held-no-cause : {L : Type 0} (p : Packed L) (held : Held) (c : Cause) → IsHeldOf p held → IsCause p c → ⊥
held-no-cause p held c x (inl y) = let both : ◌≡◌ {A = Bool} true false = sym y.0 ∙ x.whole in absurd (cc)
held-no-cause p held c x (inr y) = by y.1
  where
    by : IsReplyCause p c ⊎ IsBodyCause p c → ⊥
    by (inl a) = body-no-cause p held.leaf.bytes c x.has a
    by (inr b) =
        let same : b.body ≡ held.leaf.bytes = one-body p.received p.ended b.body held.leaf.bytes b.has x.has in
        let keyed : p.target.key ≡ key.Shard (digest_of held.leaf.bytes) = sym x.key ∙ x.held.key in
        shard-not-bad held.leaf.bytes held.leaf.rows c x.rows
        (subst (λ (k : Key). IsBadAt k p.target.url held.leaf.bytes c) keyed (subst (λ (l : List ℕ). IsBadAt p.target.key p.target.url l c) same b.bad))

-- a shard's key is no index's
not-both : (k : Key) (digest : Digest) → IsIndexKey k → k ≡ key.Shard digest → ⊥
not-both k digest for is = subst IsIndexKey is for

-- ---- one verdict

one-pin : {L : Type 0} (a b : Pinned L) → a.parcel ≡ b.parcel → IsPin a → IsPin b → a ≡ b
one-pin {L} a b parcel x y =
    let has : HasBody b.parcel.received b.parcel.ended x.body = subst (λ (p : Packed L). HasBody p.received p.ended x.body) parcel x.has in
    let body : x.body ≡ y.body = one-body b.parcel.received b.parcel.ended x.body y.body has y.has in
    let index : a.index ≡ b.index = one_index y.body a.index b.index (subst (λ (l : List ℕ). IndexOf l a.index) body x.index) y.index in
    let bases : ◌≡◌ {A = Result (List ℕ) UrlFault} (Ok a.shards_base) (Ok b.shards_base) =
    sym x.base ∙ ap (λ (p : Packed L). shards_base p.target.url a.index.info.shards_base_url) parcel ∙ ap (λ (c : Contents). shards_base b.parcel.target.url c.info.shards_base_url) index ∙ y.base in
    let base : a.shards_base ≡ b.shards_base = cc in
    let size : a.size ≡ b.size = x.size ∙ ap length body ∙ sym y.size in
    λ i. record { parcel = parcel i; index = index i; shards_base = base i; size = size i }

one-held : {L : Type 0} (p : Packed L) (a b : Held) → IsHeldOf p a → IsHeldOf p b → a ≡ b
one-held p a b x y =
    let keyed : a.key ≡ b.key = x.key ∙ sym y.key in
    let bytes : a.leaf.bytes ≡ b.leaf.bytes = one-body p.received p.ended a.leaf.bytes b.leaf.bytes x.has y.has in
    let rows : a.leaf.rows ≡ b.leaf.rows = one_shard b.leaf.bytes a.leaf.rows b.leaf.rows (subst (λ (l : List ℕ). ShardOf l a.leaf.rows) bytes x.rows) y.rows in
    let size : a.size ≡ b.size = x.held.size ∙ ap length bytes ∙ sym y.held.size in
    λ i. record { key = keyed i; leaf = record { bytes = bytes i; rows = rows i }; size = size i }

pub one-verdict : {L : Type 0} (p : Packed L) (a b : Verdict L) → IsVerdict p a → IsVerdict p b → a ≡ b
one-verdict p (verdict.Index a) (verdict.Index b) x y = ap verdict.Index (one-pin a b (x.0 ∙ sym y.0) x.1 y.1)
one-verdict {L} p (verdict.Index a) (verdict.Shard b) x y = absurd (not-both p.target.key (digest_of b.leaf.bytes) (subst (λ (q : Packed L). IsIndexKey q.target.key) x.0 x.1.for) (sym y.key ∙ y.held.key))
one-verdict {L} p (verdict.Index a) (verdict.Wreck b) x y = absurd (pin-no-cause a b.cause x.1 (subst (λ (q : Packed L). IsCause q b.cause) (sym x.0) y.1))
one-verdict {L} p (verdict.Shard a) (verdict.Index b) x y = absurd (not-both p.target.key (digest_of a.leaf.bytes) (subst (λ (q : Packed L). IsIndexKey q.target.key) y.0 y.1.for) (sym x.key ∙ x.held.key))
one-verdict p (verdict.Shard a) (verdict.Shard b) x y = ap verdict.Shard (one-held p a b x y)
one-verdict p (verdict.Shard a) (verdict.Wreck b) x y = absurd (held-no-cause p a b.cause x y.1)
one-verdict {L} p (verdict.Wreck a) (verdict.Index b) x y = absurd (pin-no-cause b a.cause y.1 (subst (λ (q : Packed L). IsCause q a.cause) (sym y.0) x.1))
one-verdict p (verdict.Wreck a) (verdict.Shard b) x y = absurd (held-no-cause p b a.cause y x.1)
one-verdict {L} p (verdict.Wreck a) (verdict.Wreck b) x y =
    let parcel : a.parcel ≡ b.parcel = x.0 ∙ sym y.0 in
    let same : a.cause ≡ b.cause = one-cause p a.cause b.cause x.1 y.1 in
    ap verdict.Wreck (λ i. record { parcel = parcel i; cause = same i })
