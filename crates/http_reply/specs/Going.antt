-- What is decided of a parcel by the bytes that came.
use Rattle.std.specs.Prelude.{◌≡◌, false}
use Rattle.http_head.specs.declared.reply.Reply.{Reply}
use Rattle.http_head.specs.Reply.{IsUnsettled, IsDecidedAs}
use Rattle.link_io.specs.Parcel.{Packed}

-- nothing is decided of a parcel
abbrev pub IsUndecided : {L : Type 0} → Packed L → Type 0
IsUndecided p = IsUnsettled p.received p.ended

-- a parcel is decided, as some reply
pub record IsDecided {L : Type 0} (p : Packed L) : Type 0 where
  pub reply : Reply
  pub decided : IsDecidedAs p.received p.ended reply

-- a parcel can go on: its connection didn't fail, and nothing is decided
pub record IsGoing {L : Type 0} (p : Packed L) : Type 0 where
  pub whole : p.broken ≡ false
  pub undecided : IsUndecided p
