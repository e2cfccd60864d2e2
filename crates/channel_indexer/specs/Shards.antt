-- What indexing puts: the shards, ascending by the names of the packages, and then the index (CEP 16).
use Rattle.std.specs.Prelude.{◌≡◌, ℕ, ◌<◌, ◌≤◌, ◌^◌, List, [], ◌∷◌, ◌++◌, length, map}
use Rattle.std.specs.List.{All}
use Rattle.channel_store.specs.Names.{subdir_of, index_name, shard_name}
use Rattle.gateway_words.specs.Limits.{most_served_bytes}
use Rattle.digest_gate.specs.declared.digest.Digest.{Digest}
use Rattle.digest_gate.specs.Digest.{digest_of, text_of}
use Rattle.shard_file.specs.Writing.{shard_bytes, AreWritable}
use Rattle.shard_index.specs.Index.{Listed}
use Rattle.shard_index.specs.Writing.{index_bytes}
use Rattle.channel_indexer.specs.Puts.{Put}
use Rattle.channel_indexer.specs.Groups.{Group}

-- the file of the shard with this digest
abbrev pub shard_file : List ℕ → Digest → List ℕ
shard_file place digest = shard_name place (text_of digest)

-- ---- the puts

-- the shard of a group
abbrev pub shard_put : List ℕ → Group → Put
shard_put place g = record { name = shard_file place (digest_of (shard_bytes g.rows)); bytes = shard_bytes g.rows }

-- the entry of a group in the index
abbrev pub listed_of : Group → Listed
listed_of g = record { name = g.name; digest = digest_of (shard_bytes g.rows) }

-- the index of some names
abbrev pub index_put : List ℕ → List Listed → Put
index_put place listed = record { name = index_name place; bytes = index_bytes (subdir_of place) listed }

-- the shard of each group, and behind them the index
abbrev pub index_puts : List ℕ → List Group → List Put
index_puts place groups = map (shard_put place) groups ++ index_put place (map listed_of groups) ∷ []

-- ---- what is too long

-- a group has a shard, and that isn't too long
pub record IsFit (g : Group) : Type 0 where
  pub named : length g.name < 2 ^ 32
  pub writable : AreWritable g.rows
  pub short : length (shard_bytes g.rows) ≤ most_served_bytes

-- there is an index of so many names, and it isn't too long
pub record HasFitIndex (place : List ℕ) (listed : List Listed) : Type 0 where
  pub few : length listed < 2 ^ 32
  pub short : length (index_bytes (subdir_of place) listed) ≤ most_served_bytes

-- the first group whose shard is too long has this name
pub record IsFirstLong (groups : List Group) (name : List ℕ) : Type 0 where
  pub front : List Group
  pub long : Group
  pub back : List Group
  pub are : groups ≡ front ++ long ∷ back
  pub fit : All IsFit front
  pub unfit : IsFit long → ⊥
  pub named : long.name ≡ name
