-- What a flight came to, as contracts see it.
use Rattle.std.specs.Prelude.{ℕ, List}
use Rattle.link_io.specs.declared.target.Key.{Key}
use Rattle.link_io.specs.Parcel.{Packed}
use Rattle.fetch_flight.specs.declared.causes.Cause.{Cause}
use Rattle.shard_index.specs.Index as index
use Rattle.shard_file.specs.Rows as shard

-- an index with the parcel that it came in
pub record Pinned (L : Type 0) : Type 0 where
  pub parcel : Packed L
  pub index : index.Contents
  pub shards_base : List ℕ
  pub size : ℕ

-- a shard under its key
pub record Held : Type 0 where
  pub key : Key
  pub leaf : shard.Contents
  pub size : ℕ

-- a parcel without a value, and why
pub record Wrecked (L : Type 0) : Type 0 where
  pub parcel : Packed L
  pub cause : Cause
