-- What a flight came to: the relation between its parcel and its verdict.
use Rattle.std.specs.Prelude.{◌≡◌, ℕ, true, false, Option, Some, None, is_some, refl}
use Rattle.shard_file.specs.Rows.{ShardOf}
use Rattle.link_io.specs.declared.target.Key.{Key}
use Rattle.link_io.specs.Origin.{Origin}
use Rattle.link_io.specs.Conn.{LinkFacts}
use Rattle.link_io.specs.Parcel.{Packed}
use Rattle.http_head.specs.Reply.{HasBody}
use Rattle.fetch_flight.specs.declared.verdicts.Verdict.{Verdict}
use Rattle.fetch_flight.specs.declared.verdicts.Verdict.TheVariants as verdict
use Rattle.fetch_flight.specs.Made.{Held}
use Rattle.fetch_flight.specs.Pins.{IsPin, IsHeld}
use Rattle.fetch_flight.specs.Cause.{IsCause}

-- a shard is that of a parcel's body
pub record IsHeldOf {L : Type 0} (p : Packed L) (h : Held) : Type 0 where
  pub key : h.key ≡ p.target.key
  pub whole : p.broken ≡ false
  pub has : HasBody p.received p.ended h.leaf.bytes
  pub rows : ShardOf h.leaf.bytes h.leaf.rows
  pub held : IsHeld h

-- what a parcel came to
abbrev pub IsVerdict : {L : Type 0} → Packed L → Verdict L → Type 0
IsVerdict p (verdict.Index pin) = (pin.parcel ≡ p) × IsPin pin
IsVerdict p (verdict.Shard held) = IsHeldOf p held
IsVerdict p (verdict.Wreck wreck) = (wreck.parcel ≡ p) × IsCause p wreck.cause

-- ---- a verdict as what a flight table keeps

-- under which key it was fetched
abbrev pub key_of : {L : Type 0} → Verdict L → Key
key_of (verdict.Index pin) = pin.parcel.target.key
key_of (verdict.Shard held) = held.key
key_of (verdict.Wreck wreck) = wreck.parcel.target.key

-- how many bytes it is kept with, unless it is a wreck
abbrev pub size_of : {L : Type 0} → Verdict L → Option ℕ
size_of (verdict.Index pin) = Some pin.size
size_of (verdict.Shard held) = Some held.size
size_of (verdict.Wreck wreck) = None

-- the link that it keeps
abbrev pub link_of : {L : Type 0} → Verdict L → Option L
link_of (verdict.Index pin) = Some pin.parcel.link
link_of (verdict.Shard held) = None
link_of (verdict.Wreck wreck) = Some wreck.parcel.link

-- the number of a link
abbrev pub number_at : {L : Type 0} → (L → LinkFacts) → Option L → Option ℕ
number_at facts (Some link) = Some (facts link).number
number_at facts None = None

-- the number of the link that it keeps
abbrev pub number_of : {L : Type 0} → (L → LinkFacts) → Verdict L → Option ℕ
number_of facts v = number_at facts (link_of v)

-- a link, where there is one, comes from an origin
abbrev pub link_from : {L : Type 0} → (L → Origin → Type 0) → Option L → Origin → Type 0
link_from from (Some link) o = from link o
link_from from None o = Unit {0}

-- the link that it keeps comes from an origin
abbrev pub comes_from : {L : Type 0} → (L → Origin → Type 0) → Verdict L → Origin → Type 0
comes_from from v o = link_from from (link_of v) o

-- what has no size has the number of its link
pub wrecks-numbered : {L : Type 0} (facts : L → LinkFacts) (v : Verdict L) → size_of v ≡ None → is_some (number_of facts v) ≡ true
wrecks-numbered facts (verdict.Index pin) none = absurd (cc)
wrecks-numbered facts (verdict.Shard held) none = absurd (cc)
wrecks-numbered facts (verdict.Wreck wreck) none = refl

-- what a table of flights learns of a verdict: its key, the number of a wreck's link, and where its link comes from
pub record IsLandedFrom {L : Type 0} (facts : L → LinkFacts) (comes : L → Origin → Type 0) (p : Packed L) (v : Verdict L) : Type 0 where
  pub key : key_of v ≡ p.target.key
  pub number : size_of v ≡ None → number_of facts v ≡ Some (facts p.link).number
  pub from : (o : Origin) → comes p.link o → comes_from comes v o

-- ---- laws

-- a parcel comes to one verdict
abbrev pub OneVerdict : Type 0 → Type 0
OneVerdict L = (p : Packed L) (a b : Verdict L) → IsVerdict p a → IsVerdict p b → a ≡ b
