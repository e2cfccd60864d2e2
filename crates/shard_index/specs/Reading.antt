-- Reading an index from a position, map by map, as functions of the position.
use Rattle.std.specs.Prelude.{ℕ, zero, suc, Bool, List, [], ◌∷◌, ◌++◌, map, Option, Some, None, Result, Ok, slice_index_or}
use Rattle.std.specs.List.{list_any, IsDistinct}
use Rattle.std.specs.Str.{bytes_eq}
use Rattle.gateway_words.specs.Places.{Position}
use Rattle.gateway_words.specs.Reading.{◌>>=◌}
use Rattle.mp_codec.specs.declared.fault.FormatFault.{FormatFault}
use Rattle.mp_codec.specs.Maps.{Read, entries_from, map_from, unread, known_key_from, known_value_from, known_end_from, all_from}
use Rattle.shard_index.specs.Digests.{digest_from}
use Rattle.shard_index.specs.Version.{version_from}
use Rattle.shard_index.specs.Info.{Info, info_in, info_from}
use Rattle.gateway_words.specs.Sorting.{sorted_by}
use Rattle.shard_index.specs.Index.{Listed, Contents, index_keys, name_lt}
use Rattle.mp_codec.specs.Names.{new_name_from}

-- ---- the map from names to digests

-- this name is listed
abbrev pub is_listed : List ℕ → List Listed → Bool
is_listed name listed = list_any (λ x. bytes_eq x.name name) listed

-- no name is listed twice
abbrev pub AreDistinct : List Listed → Type 0
AreDistinct listed = IsDistinct bytes_eq (map (λ x. x.name) listed)

-- a name that is not listed so far
abbrev pub name_from : List Listed → Position → Read (List ℕ)
name_from listed here = new_name_from (λ name. is_listed name listed) here

-- what is listed so far, with a name and the digest that stands here
unfoldable pub listed_value_from : List Listed → List ℕ → Position → Read (List Listed)
listed_value_from listed name here = digest_from here >>= λ d. Ok (listed ++ record { name = name; digest = d.0 } ∷ [], d.1)

-- what is listed
abbrev pub listed_end_from : List Listed → Position → Read (List Listed)
listed_end_from listed here = Ok (listed, here)

-- so many names, behind what is listed so far
abbrev pub listed_after : ℕ → List Listed → Position → Read (List Listed)
listed_after = entries_from name_from listed_value_from listed_end_from

-- the map from names to digests that must stand here
unfoldable pub listed_from : Position → Read (List Listed)
listed_from here = map_from (λ n there. listed_after n [] there) here

-- ---- an index

-- what was read behind a key
pub data Datum : Type 0 where
  Shards : List Listed → Datum
  Version : Datum
  Infos : Info → Datum

-- what stands behind the known key at this place
abbrev pub member_from : ℕ → Position → Read Datum
member_from zero here = listed_from here >>= λ listed. Ok (Shards listed.0, listed.1)
member_from (suc zero) here = version_from here >>= λ n. Ok (Version, n.1)
member_from (suc (suc i)) here = info_from here >>= λ info. Ok (Infos info.0, info.1)

-- what is listed behind the key of the shards
abbrev pub shards_in : Option Datum → List Listed
shards_in (Some (Shards listed)) = listed
shards_in _ = []

-- what info says
abbrev pub infos_in : Option Datum → Info
infos_in (Some (Infos info)) = info
infos_in _ = info_in []

-- what an index says, by the places of the keys, with the names in the order in which they stand
abbrev pub contents_read : List (Option Datum) → Contents
contents_read s = record { info = infos_in (slice_index_or s 2 None); listed = shards_in (slice_index_or s 0 None) }

-- the end of an index, which has shards
unfoldable pub index_end_from : List (Option Datum) → Position → Read Contents
index_end_from s here = known_end_from 1 s here >>= λ s. Ok (contents_read s.0, s.1)

-- so many pairs of an index, behind what was read so far, and its end
abbrev pub index_pairs_from : ℕ → List (Option Datum) → Position → Read Contents
index_pairs_from = entries_from (known_key_from index_keys) (known_value_from index_keys member_from) index_end_from

-- the index that stands here
unfoldable pub index_from : Position → Read Contents
index_from here = map_from (λ n there. index_pairs_from n (unread index_keys) there) here

-- what the index says that some bytes are, with the names in the order in which they stand
unfoldable pub contents_from : List ℕ → Result Contents FormatFault
contents_from bytes = all_from index_from bytes

-- the same with the names ascending
abbrev pub in_name_order : Contents → Contents
in_name_order c = record { info = c.info; listed = sorted_by name_lt c.listed }

-- what some bytes say as an index, with its names ascending, or the first fault
unfoldable pub index_of : List ℕ → Result Contents FormatFault
index_of bytes = contents_from bytes >>= λ c. Ok (in_name_order c)
