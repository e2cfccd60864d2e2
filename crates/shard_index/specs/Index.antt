-- Which bytes are an index, what it says, and what may be wrong with it (CEP 16, "repodata shard index").
use Rattle.std.specs.Prelude.{◌≡◌, ◌⊎◌, ℕ, Bool, true, List, [], ◌∷◌, Option, Some, None, map, unwrap_or, codes, if◌then◌else◌}
use Rattle.std.specs.Ordering.{is_lt, nat_cmp}
use Rattle.std.specs.Cmp.Lexicographic.{slice_cmp}
use Rattle.std.specs.Str.{bytes_eq}
use Rattle.std.specs.List.Sorted.{IsSortedBy, IsStableBy}
use Rattle.digest_gate.specs.declared.digest.Digest.{Digest}
use Rattle.mp_codec.specs.declared.fault.FormatFault.{FormatFault}
use Rattle.mp_codec.specs.Value.{Value, pairs_of, str_of}
use Rattle.mp_codec.specs.Spelling.{Spells}
use Rattle.mp_codec.specs.Fault.{Faults, MapRules, MapFault, BytesFault}
use Rattle.mp_codec.specs.Names.{names_rules}
use Rattle.mp_codec.specs.Keys.{is_key, value_at, RepeatedKey, MissingKey}
use Rattle.shard_index.specs.declared.writing.IndexRow.{IndexRow}
use Rattle.shard_index.specs.Digests.{digest_of, DigestFault}
use Rattle.shard_index.specs.Version.{VersionFault}
use Rattle.shard_index.specs.Info.{Info, info_of, InfoFault}

-- ---- what an index says

-- a name that is listed, and the digest of its shard
abbrev pub Listed : Type 0
Listed = IndexRow

-- what an index says: its info, and the names that it lists, ascending
pub record Contents : Type 0 where
  pub info : Info
  pub listed : List Listed

-- the digest that is listed for a name, if the name is listed
abbrev pub digest_at : List ℕ → List Listed → Option Digest
digest_at name [] = None
digest_at name (x ∷ xs) = if bytes_eq x.name name then Some x.digest else digest_at name xs

-- one name comes before another, by bytes
abbrev pub name_lt : Listed → Listed → Bool
name_lt x y = is_lt (slice_cmp nat_cmp x.name y.name)

-- the key of the map from names to digests
abbrev pub shards_key : List ℕ
shards_key = codes "shards"

-- the key of the version
abbrev pub version_key : List ℕ
version_key = codes "version"

-- the key of the info
abbrev pub info_key : List ℕ
info_key = codes "info"

-- the keys of an index that are known
abbrev pub index_keys : List (List ℕ)
index_keys = shards_key ∷ version_key ∷ info_key ∷ []

-- the name and the digest of a key and the value behind it
abbrev pub listed_of : Value × Value → Listed
listed_of p = record { name = unwrap_or (str_of p.0) []; digest = unwrap_or (digest_of p.1) (record { 0 = [] }) }

-- what a map from names to digests lists, in the order in which it stands there
abbrev pub listed_in : Option Value → List Listed
listed_in (Some v) = map listed_of (pairs_of v)
listed_in None = []

-- ---- what may be wrong with an index

-- the map from names to digests has different texts for keys
abbrev pub shards_rules : MapRules
shards_rules = names_rules DigestFault

-- what may be wrong with the map from names to digests
abbrev pub ShardsFault : Faults
ShardsFault = MapFault shards_rules

-- an index is a map with no known key twice and not without shards
abbrev pub index_rules : MapRules
index_rules = record {
  key = λ front. RepeatedKey index_keys front;
  value = λ key here f. ((is_key shards_key key ≡ true) × ShardsFault here f)
      ⊎ (((is_key version_key key ≡ true) × VersionFault here f) ⊎ ((is_key info_key key ≡ true) × InfoFault here f));
  end = λ front. MissingKey (shards_key ∷ []) front;
}

-- what may be wrong with some bytes as an index, which is one map and nothing behind it
abbrev pub IndexFault : List ℕ → FormatFault → Type 0
IndexFault = BytesFault (MapFault index_rules)

-- the bytes are an index that says this
pub record IndexOf (bytes : List ℕ) (contents : Contents) : Type 0 where
  pub value : Value
  pub spelled : Spells value bytes
  pub info : contents.info ≡ info_of (value_at info_key (pairs_of value))
  pub ascending : IsSortedBy name_lt contents.listed
  pub in_order : IsStableBy name_lt (listed_in (value_at shards_key (pairs_of value))) contents.listed
  pub no_fault : (f : FormatFault) → IndexFault bytes f → ⊥
