-- What was read so far of an index and of its info, by the places of the keys.
use Rattle.std.specs.Prelude.{ℕ, Bool, true, false, List, [], ◌∷◌, Option, Some, None}
use Rattle.shard_index.specs.declared.info.InfoKey.{InfoKey}
use Rattle.shard_index.specs.declared.info.InfoKey.TheVariants as info_key
use Rattle.shard_index.specs.declared.info.FoundInfo.{FoundInfo}
use Rattle.shard_index.specs.declared.reading.Key.{Key}
use Rattle.shard_index.specs.declared.reading.Key.TheVariants as key
use Rattle.shard_index.specs.declared.reading.Found.{Found}
use Rattle.shard_index.specs.Info.{Info}
use Rattle.shard_index.specs.Index.{Listed}
use Rattle.shard_index.specs.Reading.{Datum, Shards, Version, Infos}

-- ---- info

-- the place of a key of info among the known ones, or their number
abbrev pub info_place : InfoKey → ℕ
info_place info_key.BaseUrl = 0
info_place info_key.ShardsBaseUrl = 1
info_place info_key.Subdir = 2
info_place info_key.CreatedAt = 3
info_place info_key.Other = 4

-- a value that was skipped is no text
abbrev pub skipped_read : Bool → Option (Option (List ℕ))
skipped_read true = Some None
skipped_read false = None

-- what was found of info, by the places of the keys
abbrev pub info_known : FoundInfo → List (Option (Option (List ℕ)))
info_known found = found.base_url ∷ found.shards_base_url ∷ found.subdir ∷ skipped_read found.created_at ∷ []

-- ---- an index

-- the place of a key of an index among the known ones, or their number
abbrev pub place : Key → ℕ
place key.Shards = 0
place key.Version = 1
place key.Info = 2
place key.Other = 3

-- the names that were read
abbrev pub shards_read : Option (List Listed) → Option Datum
shards_read (Some listed) = Some (Shards listed)
shards_read None = None

-- whether the version was read
abbrev pub version_read : Bool → Option Datum
version_read true = Some Version
version_read false = None

-- the info that was read
abbrev pub info_datum_read : Option Info → Option Datum
info_datum_read (Some info) = Some (Infos info)
info_datum_read None = None

-- what was found of an index, by the places of the keys
abbrev pub known : Found → List (Option Datum)
known found = shards_read found.shards ∷ version_read found.version ∷ info_datum_read found.info ∷ []
