-- What contracts see of a part of `repodata.json` that is lent.
use Rattle.std.specs.Prelude.{List, ◌++◌, Option, Some, None, Result, Ok}
use Rattle.std.specs.Borrow.{Bor}
use Rattle.std.specs.declared.alloc.Global.{Global}
use Rattle.std.specs.declared.string.String.{String}
use Rattle.std.specs.BTreeMap.{BTreeMap}
use Rattle.serde_json.specs.declared.value.Value.{Value}
use Rattle.serde_json.specs.Data.{Members, no_members}
use Rattle.serde_json.specs.View.{members_view}
use Rattle.gateway_words.specs.Reading.{◌>>=◌}
use Rattle.shard_file.specs.Rows.{Row}
use Rattle.channel_indexer.specs.declared.fault.IndexFault.{IndexFault}

-- the members of a part that is lent; a missing part has none
abbrev pub members_lent : Option (Bor (BTreeMap (String Global) Value)) → Members
members_lent (Some part) = members_view part.now.entries
members_lent None = no_members

-- the rows of a reading, behind those that stood
abbrev pub behind : List Row → Result (List Row) IndexFault → Result (List Row) IndexFault
behind stood rows = rows >>= λ rs. Ok (stood ++ rs)
