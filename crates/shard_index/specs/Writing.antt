-- The bytes of an index that is written, and of which names one can be (docs/FORMATS.md, "Indexes").
use Rattle.std.specs.Prelude.{◌≡◌, ℕ, ◌<◌, ◌^◌, true, List, [], ◌∷◌, ◌++◌, length, map, Some, None, codes}
use Rattle.std.specs.Ordering.{nat_cmp}
use Rattle.std.specs.Cmp.Lexicographic.{slice_cmp}
use Rattle.std.specs.List.{flat_map, All}
use Rattle.std.specs.List.Sorted.{IsStrictlySortedBy}
use Rattle.std.specs.Str.{is_utf8}
use Rattle.mp_codec.specs.Writing.{uint_bytes, str_bytes, bin_bytes, map_head, pair_bytes, known_map_bytes}
use Rattle.shard_index.specs.Info.{info_keys, default_base, default_shards_base}
use Rattle.shard_index.specs.Index.{Listed, Contents, version_key, info_key, shards_key}

-- ---- the bytes

-- a name and its digest
unfoldable pub entry_bytes : Listed → List ℕ
entry_bytes x = str_bytes x.name ++ bin_bytes x.digest.0

-- a map from names to digests
abbrev pub listed_bytes : List Listed → List ℕ
listed_bytes listed = map_head (length listed) ++ flat_map entry_bytes listed

-- the info of a subdir: the bases that stand for missing ones, and the subdir's name
abbrev pub info_bytes : List ℕ → List ℕ
info_bytes subdir = known_map_bytes info_keys (Some (str_bytes default_base) ∷ Some (str_bytes default_shards_base) ∷ Some (str_bytes subdir) ∷ None ∷ [])

-- the keys of an index in the order in which they are written
abbrev pub written_keys : List (List ℕ)
written_keys = version_key ∷ info_key ∷ shards_key ∷ []

-- the index of a subdir: the version 1, the info, the names with their digests
unfoldable pub index_bytes : List ℕ → List Listed → List ℕ
index_bytes subdir listed = known_map_bytes written_keys (Some (uint_bytes 1) ∷ Some (info_bytes subdir) ∷ Some (listed_bytes listed) ∷ [])

-- ---- what can be written, and what is read of it

-- a text whose length a head of MessagePack can say
abbrev pub IsShort : List ℕ → Type 0
IsShort text = length text < 2 ^ 32

-- names that ascend without a repeat, and lengths that heads can say
pub record IsWritable (subdir : List ℕ) (listed : List Listed) : Type 0 where
  pub ascending : IsStrictlySortedBy (slice_cmp nat_cmp) (map (λ x. x.name) listed)
  pub few : length listed < 2 ^ 32
  pub subdir_short : IsShort subdir
  pub names_short : All (λ x. IsShort x.name) listed

-- a name that is text, and a digest of 32 bytes
pub record IsEntry (x : Listed) : Type 0 where
  pub text : is_utf8 x.name ≡ true
  pub digest : length x.digest.0 ≡ 32

-- what a written index says: the bases that stand for missing ones, the subdir, and the names
abbrev pub contents_written : List ℕ → List Listed → Contents
contents_written subdir listed = record { info = record { base_url = default_base; shards_base_url = default_shards_base; subdir = subdir }; listed = listed }

-- ---- an index in parts, as it is written

-- a key and a text
unfoldable pub text_pair : List ℕ → List ℕ → List ℕ
text_pair key text = pair_bytes key (Some (str_bytes text))

-- the version
unfoldable pub version_pair : List ℕ
version_pair = pair_bytes version_key (Some (uint_bytes 1))

-- the bases that stand for missing ones
unfoldable pub bases_pairs : List ℕ
bases_pairs = text_pair (codes "base_url") default_base ++ text_pair (codes "shards_base_url") default_shards_base

-- the info
unfoldable pub info_pair : List ℕ → List ℕ
info_pair subdir = str_bytes info_key ++ (map_head 3 ++ (bases_pairs ++ text_pair (codes "subdir") subdir))

-- the names with their digests
unfoldable pub shards_pair : List Listed → List ℕ
shards_pair listed = str_bytes shards_key ++ (map_head (length listed) ++ flat_map entry_bytes listed)
