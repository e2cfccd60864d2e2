-- What an index says of its subdir, by the key info, and what may be wrong with that.
use Rattle.std.specs.Prelude.{ℕ, List, [], ◌∷◌, Option, Some, None, unwrap_or, codes, Ok, nat_lt, if◌then◌else◌, slice_index_or}
use Rattle.std.specs.Option.{option_flatten}
use Rattle.std.specs.Str.{is_utf8}
use Rattle.gateway_words.specs.Places.{Position}
use Rattle.gateway_words.specs.Reading.{◌>>=◌}
use Rattle.mp_codec.specs.Value.{Value, Pairs, pairs_of, str_of}
use Rattle.mp_codec.specs.Fault.{Faults, no_fault, MapRules, MapFault}
use Rattle.mp_codec.specs.Keys.{value_at, RepeatedKey}
use Rattle.mp_codec.specs.Maps.{Read, skipped, str_from, entries_from, map_from, unread, known_key_from, known_value_from, known_end_from}

-- where the packages and the shards of a subdir stand, and the subdir's name
pub record Info : Type 0 where
  pub base_url : List ℕ
  pub shards_base_url : List ℕ
  pub subdir : List ℕ

-- the keys of info that are known
abbrev pub info_keys : List (List ℕ)
info_keys = codes "base_url" ∷ codes "shards_base_url" ∷ codes "subdir" ∷ codes "created_at" ∷ []

-- the base of the packages where none is given
abbrev pub default_base : List ℕ
default_base = codes "./"

-- the base of the shards where none is given
abbrev pub default_shards_base : List ℕ
default_shards_base = codes "./shards/"

-- bytes that are text
abbrev pub text_in : Option (List ℕ) → Option (List ℕ)
text_in (Some bytes) = if is_utf8 bytes then Some bytes else None
text_in None = None

-- the text that a value is, if it is one
abbrev pub text_of : Value → Option (List ℕ)
text_of v = text_in (str_of v)

-- the text that the value behind a key is, where both are there
abbrev pub text_behind : Option Value → Option (List ℕ)
text_behind (Some v) = text_of v
text_behind None = None

-- the text behind the key of this name, where there is one
abbrev pub text_at : List ℕ → Pairs → Option (List ℕ)
text_at name ps = text_behind (value_at name ps)

-- what the pairs of info say; a value that is no text counts as missing
abbrev pub info_in : Pairs → Info
info_in ps = record {
  base_url = unwrap_or (text_at (codes "base_url") ps) default_base;
  shards_base_url = unwrap_or (text_at (codes "shards_base_url") ps) default_shards_base;
  subdir = unwrap_or (text_at (codes "subdir") ps) [];
}

-- what info says; where it is missing it counts as empty
abbrev pub info_of : Option Value → Info
info_of (Some v) = info_in (pairs_of v)
info_of None = info_in []

-- info is a map with no known key twice
abbrev pub info_rules : MapRules
info_rules = record { key = λ front. RepeatedKey info_keys front; value = λ key. no_fault; end = λ front. no_fault }

-- what may be wrong with info
abbrev pub InfoFault : Faults
InfoFault = MapFault info_rules

-- ---- reading it

-- a text, or none of a value of another kind
unfoldable pub optional_text_from : Position → Read (Option (List ℕ))
optional_text_from here = str_from here >>= λ s. Ok (text_in s.0, s.1)

-- what stands behind the known key at this place: a text, or a value that is skipped
abbrev pub info_datum_from : ℕ → Position → Read (Option (List ℕ))
info_datum_from i here = if nat_lt i 3 then optional_text_from here else skipped None here

-- what was read, by the places of the keys
abbrev pub info_read : List (Option (Option (List ℕ))) → Info
info_read s = record {
  base_url = unwrap_or (option_flatten (slice_index_or s 0 None)) default_base;
  shards_base_url = unwrap_or (option_flatten (slice_index_or s 1 None)) default_shards_base;
  subdir = unwrap_or (option_flatten (slice_index_or s 2 None)) [];
}

-- the end of info, which has no required key
unfoldable pub info_end_from : List (Option (Option (List ℕ))) → Position → Read Info
info_end_from s here = known_end_from 0 s here >>= λ s. Ok (info_read s.0, s.1)

-- so many pairs of info, behind what was read so far, and its end
abbrev pub info_pairs_from : ℕ → List (Option (Option (List ℕ))) → Position → Read Info
info_pairs_from = entries_from (known_key_from info_keys) (known_value_from info_keys info_datum_from) info_end_from

-- the info that stands here
unfoldable pub info_from : Position → Read Info
info_from here = map_from (λ n there. info_pairs_from n (unread info_keys) there) here
