-- Parcels that are decided, and those that are not.
use Rattle.std.proofs.Common.{◌≡◌, ◌⊎◌, inl, inr, ℕ, Bool, true, false, List, length, drop, sym, ◌∙◌, ap, subst, Some}
use Rattle.link_io.specs.declared.target.Key.{Key}
use Rattle.link_io.specs.declared.target.Key.TheVariants as key
use Rattle.link_io.specs.Origin.{Origin}
use Rattle.link_io.specs.Conn.{LinkFacts}
use Rattle.link_io.specs.Parcel.{Packed}
use Rattle.http_head.specs.declared.reply.Reply.{Reply}
use Rattle.http_head.specs.declared.reply.Frame.{Frame}
use Rattle.http_head.specs.declared.reply.Reply.TheVariants as reply
use Rattle.http_head.specs.Reply.{IsReply, is_settled, IsDecidedAs, framed_bytes}
use Rattle.http_head.proofs.ReplyLemmas.{one-reply, ended-settled}
use Rattle.fetch_flight.specs.declared.verdicts.Verdict.{Verdict}
use Rattle.fetch_flight.specs.declared.verdicts.Verdict.TheVariants as verdict
use Rattle.fetch_flight.specs.declared.causes.Cause.{Cause}
use Rattle.fetch_flight.specs.Cause.{IsCause, IsBadAt, IsBadIndex}
use Rattle.fetch_flight.specs.Pins.{IsIndexKey}
use Rattle.http_reply.specs.Going.{IsDecided, IsUndecided}
use Rattle.fetch_flight.specs.Verdict.{IsVerdict, IsLandedFrom}

-- a decided parcel is decided as the reply that it is
pub decided-as : {L : Type 0} (p : Packed L) (r : Reply) → IsDecided p → IsReply p.received p.ended r → IsDecidedAs p.received p.ended r
decided-as p r d is =
    let same : d.reply ≡ r = one-reply p.received p.ended d.reply r d.decided.is is in
    record { is = is; settled = ap (is_settled (length p.received) p.ended) (sym same) ∙ d.decided.settled }

-- a parcel whose reply is settled is decided
pub decided-by : {L : Type 0} (p : Packed L) (r : Reply) → IsReply p.received p.ended r → is_settled (length p.received) p.ended r ≡ true → IsDecided p
decided-by p r is settled = record { reply = r; decided = record { is = is; settled = settled } }

-- one whose reply isn't is not
pub open-by : {L : Type 0} (p : Packed L) (r : Reply) → IsReply p.received p.ended r → is_settled (length p.received) p.ended r ≡ false → IsUndecided p
open-by p r is unsettled answer other =
    let same : answer ≡ r = one-reply p.received p.ended answer r other is in
    ap (is_settled (length p.received) p.ended) same ∙ unsettled

-- a parcel whose bytes have ended is decided
pub decided-at-end : {L : Type 0} (p : Packed L) (r : Reply) → p.ended ≡ true → IsReply p.received p.ended r → IsDecided p
decided-at-end p r end is =
    let here : IsReply p.received true r = subst (λ (e : Bool). IsReply p.received e r) end is in
    decided-by p r is (ap (λ (e : Bool). is_settled (length p.received) e r) end ∙ ended-settled p.received r here)

-- a parcel that isn't broken is decided, where it is one of the two
pub whole-decided : {L : Type 0} (p : Packed L) → (p.broken ≡ true) ⊎ IsDecided p → p.broken ≡ false → IsDecided p
whole-decided p (inl broken) whole = absurd (let both : ◌≡◌ {A = Bool} true false = sym broken ∙ whole in cc)
whole-decided p (inr decided) whole = decided

-- why a body is no index
bad-at : (k : Key) (url body : List ℕ) (c : Cause) → IsIndexKey k → IsBadIndex url body c → IsBadAt k url body c
bad-at (key.Index own) url body c for bad = bad
bad-at (key.Shard digest) url body c for bad = absurd for

-- a body that is no index is a cause
pub bad_index : {L : Type 0} (p : Packed L) (len : ℕ) (framed : Frame) (body : List ℕ) (c : Cause) → p.broken ≡ false → IsIndexKey p.target.key
    → IsDecidedAs p.received p.ended (reply.Body len framed) → body ≡ framed_bytes framed (drop len p.received) → IsBadIndex p.target.url body c → IsCause p c
bad_index p len framed body c whole for decided is bad =
    inr (
      whole,
      inr (record {
        body = body;
        has = record { len = len; framed = framed; decided = decided; is = is };
        bad = bad-at p.target.key p.target.url body c for bad;
      }),
    )

-- what a table of flights learns of a verdict
pub landed_from : {L : Type 0} (facts : L → LinkFacts) (from : L → Origin → Type 0) (p : Packed L) (v : Verdict L) → IsVerdict p v → IsLandedFrom facts from p v
landed_from facts from p (verdict.Index pin) x = record {
  key = ap (λ q. q.target.key) x.0;
  number = λ none. absurd (cc);
  from = λ o is. subst (λ q. from q.link o) (sym x.0) is;
}
landed_from facts from p (verdict.Shard held) x = record {
  key = x.key;
  number = λ none. absurd (cc);
  from = λ o is. tt;
}
landed_from facts from p (verdict.Wreck wreck) x = record {
  key = ap (λ q. q.target.key) x.0;
  number = λ none. ap (λ q. Some (facts q.link).number) x.0;
  from = λ o is. subst (λ q. from q.link o) (sym x.0) is;
}
