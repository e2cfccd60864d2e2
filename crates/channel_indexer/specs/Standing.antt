-- A place whose index has all its shards (docs/FORMATS.md, "Indexing").
use Rattle.std.specs.Prelude.{◌≡◌, ◌⊎◌, ℕ, List, Some, None}
use Rattle.std.specs.List.{All}
use Rattle.std.specs.FinMap as finite
use Rattle.digest_gate.specs.declared.digest.Digest.{Digest}
use Rattle.digest_gate.specs.Digest.{digest_of}
use Rattle.shard_index.specs.Index.{Contents, IndexOf}
use Rattle.channel_store.specs.Store.{Files}
use Rattle.channel_store.specs.Names.{index_name}
use Rattle.channel_indexer.specs.Shards.{shard_file}

-- the shard with this digest has its file, whose bytes have the digest
pub record HasShard (place : List ℕ) (files : Files) (digest : Digest) : Type 0 where
  pub bytes : List ℕ
  pub stands : finite.get files (shard_file place digest) ≡ Some bytes
  pub digested : digest_of bytes ≡ digest

-- the index of a place has a reading, and each digest that it lists has its shard
pub record Stands (place : List ℕ) (files : Files) : Type 0 where
  pub bytes : List ℕ
  pub contents : Contents
  pub there : finite.get files (index_name place) ≡ Some bytes
  pub reading : IndexOf bytes contents
  pub each : All (λ x. HasShard place files x.digest) contents.listed

-- a place stands, or it has no index
abbrev pub StandsOrEmpty : List ℕ → Files → Type 0
StandsOrEmpty place files = Stands place files ⊎ (finite.get files (index_name place) ≡ None)
