-- What was indexed comes back from a server of the files (docs/FORMATS.md, "Served paths" and "Indexing").
use Rattle.std.specs.Prelude.{◌≡◌, ℕ, List, ◌∷◌, ◌++◌, map, length, Some, true, codes}
use Rattle.std.specs.List.{All, flat_map}
use Rattle.std.specs.List.Sorted.{IsPermutation}
use Rattle.gateway_words.specs.Causes.{Rose}
use Rattle.digest_gate.specs.Digest.{digest_of}
use Rattle.shard_file.specs.Rows.{Row, ShardOf}
use Rattle.shard_file.specs.Writing.{shard_bytes}
use Rattle.shard_index.specs.Index.{IndexOf}
use Rattle.shard_index.specs.Writing.{index_bytes, contents_written}
use Rattle.http_head.specs.Reply.{HasBody}
use Rattle.http_head.specs.Served.{served_head}
use Rattle.channel_store.specs.Store.{Files}
use Rattle.channel_store.specs.Names.{slash, subdir_of, index_name}
use Rattle.channel_indexer.specs.Groups.{Group}
use Rattle.channel_indexer.specs.Shards.{shard_file, listed_of}
use Rattle.shard_server.specs.Answer.{Answer, Answers, status_ok}

-- the path at which the file of a name is asked for
abbrev pub path_of : List ℕ → List ℕ
path_of name = slash ∷ name

-- the answer to a GET with a whole file
abbrev pub file_answer : List ℕ → Answer
file_answer bytes = record { status = status_ok; body = bytes; size = length bytes }

-- a file with these bytes is given under its name
pub record IsGiven (files : Files) (name bytes : List ℕ) : Type 0 where
  -- each answer to a GET of its path, by a store of these files, is the file, unless a call of the store failed
  pub got : (before now : ℕ) (given : Answer) → Answers (codes "GET") (path_of name) (Some files) before now given
      → (Rose before now → ⊥) → given ≡ file_answer bytes
  -- the reply with that length and that body is good, and its body is the file
  pub reply : HasBody (served_head (length bytes) ++ bytes) true bytes

-- no two different shards have one digest
abbrev pub AreToldApart : List Group → Type 0
AreToldApart groups = All (λ g. All (λ h.
    digest_of (shard_bytes g.rows) ≡ digest_of (shard_bytes h.rows) → shard_bytes g.rows ≡ shard_bytes h.rows) groups) groups

-- what was put of these records in these groups comes back by the files that stand now
pub record ComesBack (place : List ℕ) (stood : List Row) (groups : List Group) (files : Files) : Type 0 where
  -- the index is given, and it lists each group with the digest of its shard
  pub index : IsGiven files (index_name place) (index_bytes (subdir_of place) (map listed_of groups))
  pub lists : IndexOf (index_bytes (subdir_of place) (map listed_of groups)) (contents_written (subdir_of place) (map listed_of groups))
  -- each shard is given under its digest, and it has the rows of its group
  pub shards : All (λ g. IsGiven files (shard_file place (digest_of (shard_bytes g.rows))) (shard_bytes g.rows)) groups
  pub says : All (λ g. ShardOf (shard_bytes g.rows) g.rows) groups
  -- the rows of all shards together are the records
  pub records : IsPermutation stood (flat_map (λ g. g.rows) groups)
