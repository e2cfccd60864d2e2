-- What an index and a shard are, that a flight came to.
use Rattle.std.specs.Prelude.{◌≡◌, ℕ, List, length, false, Ok}
use Rattle.digest_gate.specs.Digest.{digest_of}
use Rattle.shard_index.specs.Index.{IndexOf}
use Rattle.link_io.specs.declared.target.Key.{Key}
use Rattle.link_io.specs.declared.target.Key.TheVariants as key
use Rattle.link_io.specs.Target.{IsPlain}
use Rattle.http_head.specs.Reply.{HasBody}
use Rattle.channel_url.specs.Addresses.{shards_base}
use Rattle.fetch_flight.specs.Made.{Pinned, Held}

-- the key of an index
abbrev pub IsIndexKey : Key → Type 0
IsIndexKey (key.Index url) = Unit {0}
IsIndexKey (key.Shard digest) = ⊥

-- an index is that of its parcel's body, and its parcel's target is plain
pub record IsPin {L : Type 0} (pin : Pinned L) : Type 0 where
  pub for : IsIndexKey pin.parcel.target.key
  pub plain : IsPlain pin.parcel.target
  pub whole : pin.parcel.broken ≡ false
  pub body : List ℕ
  pub has : HasBody pin.parcel.received pin.parcel.ended body
  pub index : IndexOf body pin.index
  pub base : shards_base pin.parcel.target.url pin.index.info.shards_base_url ≡ Ok pin.shards_base
  pub size : pin.size ≡ length body

-- a shard has the digest of its key
pub record IsHeld (held : Held) : Type 0 where
  pub key : held.key ≡ key.Shard (digest_of held.leaf.bytes)
  pub size : held.size ≡ length held.leaf.bytes
