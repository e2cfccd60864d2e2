-- Why a flight has no value.
use Rattle.std.specs.Prelude.{◌≡◌, ◌≢◌, ◌⊎◌, ℕ, List, true, false, Option, Some, None, Err}
use Rattle.digest_gate.specs.declared.digest.Digest.{Digest}
use Rattle.digest_gate.specs.Digest.{digest_of}
use Rattle.mp_codec.specs.Fault.{IsFirstFault}
use Rattle.shard_file.specs.Rows.{ShardFault}
use Rattle.shard_index.specs.Index.{Contents, IndexOf, IndexFault}
use Rattle.link_io.specs.declared.target.Key.{Key}
use Rattle.link_io.specs.declared.target.Key.TheVariants as key
use Rattle.link_io.specs.declared.target.Target.{Target}
use Rattle.link_io.specs.Parcel.{Packed}
use Rattle.http_head.specs.declared.reply.Reply.{Reply}
use Rattle.http_head.specs.declared.reply.Reply.TheVariants as reply
use Rattle.http_head.specs.Reply.{IsDecidedAs, HasBody}
use Rattle.channel_url.specs.Addresses.{shards_base}
use Rattle.fetch_flight.specs.declared.causes.Cause.{Cause}
use Rattle.fetch_flight.specs.declared.causes.Cause.TheVariants as cause
use Rattle.fetch_flight.specs.declared.causes.Malformed.TheVariants as malformed

-- the cause that a reply is by itself
abbrev pub cause_of_reply : Reply → Option Cause
cause_of_reply reply.Partial = None
cause_of_reply (reply.Body len framed) = None
cause_of_reply reply.Absent = Some cause.Absent
cause_of_reply (reply.Status status) = Some (cause.Status status)
cause_of_reply reply.BadReply = Some cause.BadReply
cause_of_reply reply.TooLong = Some cause.TooLong

-- why a body is no shard of that digest
abbrev pub IsBadShard : Digest → List ℕ → Cause → Type 0
IsBadShard digest body (cause.Digest want got) = (want ≡ digest) × (got ≡ digest_of body) × (digest_of body ≢ digest)
IsBadShard digest body (cause.Malformed (malformed.Format f)) = (digest_of body ≡ digest) × IsFirstFault (ShardFault body) f
IsBadShard digest body (cause.Malformed (malformed.Base f)) = ⊥
IsBadShard digest body cause.Link = ⊥
IsBadShard digest body cause.Absent = ⊥
IsBadShard digest body (cause.Status status) = ⊥
IsBadShard digest body cause.BadReply = ⊥
IsBadShard digest body cause.TooLong = ⊥

-- why a body is no index at that address
abbrev pub IsBadIndex : List ℕ → List ℕ → Cause → Type 0
IsBadIndex url body (cause.Malformed (malformed.Format f)) = IsFirstFault (IndexFault body) f
IsBadIndex url body (cause.Malformed (malformed.Base f)) =
    (contents : Contents) × IndexOf body contents × (shards_base url contents.info.shards_base_url ≡ Err f)
IsBadIndex url body (cause.Digest want got) = ⊥
IsBadIndex url body cause.Link = ⊥
IsBadIndex url body cause.Absent = ⊥
IsBadIndex url body (cause.Status status) = ⊥
IsBadIndex url body cause.BadReply = ⊥
IsBadIndex url body cause.TooLong = ⊥

-- why a body is not what a key and an address ask for
abbrev pub IsBadAt : Key → List ℕ → List ℕ → Cause → Type 0
IsBadAt (key.Shard digest) url body c = IsBadShard digest body c
IsBadAt (key.Index own) url body c = IsBadIndex url body c

-- why a body is not what a target asks for
abbrev pub IsBadBody : Target → List ℕ → Cause → Type 0
IsBadBody target body c = IsBadAt target.key target.url body c

-- the cause of a decided parcel is its reply
pub record IsReplyCause {L : Type 0} (p : Packed L) (c : Cause) : Type 0 where
  pub reply : Reply
  pub decided : IsDecidedAs p.received p.ended reply
  pub is : cause_of_reply reply ≡ Some c

-- or its body
pub record IsBodyCause {L : Type 0} (p : Packed L) (c : Cause) : Type 0 where
  pub body : List ℕ
  pub has : HasBody p.received p.ended body
  pub bad : IsBadBody p.target body c

-- the cause of a parcel that is broken or decided
abbrev pub IsCause : {L : Type 0} → Packed L → Cause → Type 0
IsCause p c = ((p.broken ≡ true) × (c ≡ cause.Link)) ⊎ ((p.broken ≡ false) × (IsReplyCause p c ⊎ IsBodyCause p c))
