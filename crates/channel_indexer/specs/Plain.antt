-- What is read of a `repodata.json` whose members ascend, one member after another.
use Rattle.std.specs.Prelude.{◌≡◌, ℕ, length, true, false, List, [], Option, Some, None, Result, Ok, if◌then◌else◌, ⊤}
use Rattle.std.specs.Ordering.{nat_cmp}
use Rattle.std.specs.Cmp.Lexicographic.{slice_cmp}
use Rattle.std.specs.declared.cmp.Ordering.TheVariants.{Less}
use Rattle.std.specs.Borrow.{Bor}
use Rattle.std.specs.Str.{bytes_eq}
use Rattle.json.specs.Token.{Token}
use Rattle.json.specs.Json.{value, members}
use Rattle.serde_json.specs.Data.{Data, Members, no_members}
use Rattle.serde_json.specs.Read.{of_json, of_members, converted}
use Rattle.gateway_words.specs.Reading.{◌>>=◌}
use Rattle.shard_file.specs.Rows.{Row, packages_key, conda_key}
use Rattle.channel_indexer.specs.declared.fault.IndexFault.{IndexFault}
use Rattle.channel_indexer.specs.Input.{members_of, rows_of}

-- the value that stands at the front of some tokens, nested no deeper than the number, and what is left
abbrev pub value_in : ℕ → List Token → Option (Data × List Token)
value_in depth ts = converted of_json (value depth ts)

-- the members up to the brace that closes their object, and what is left
abbrev pub members_in : ℕ → List Token → Option (Members × List Token)
members_in depth ts = converted (λ ms. of_members ms no_members) (members (value depth) (length ts) ts)

-- a key comes behind the last one, if there is one
abbrev pub IsNext : Option (Bor (List ℕ)) → List ℕ → Type 0
IsNext None key = ⊤
IsNext (Some last) key = slice_cmp nat_cmp last.now key ≡ Less

-- the rows of the value behind a key of the file, which has some behind the keys of the two parts alone
abbrev pub rows_behind : List ℕ → Data → Result (List Row) IndexFault
rows_behind key d =
    if bytes_eq key packages_key then (members_of (Some d) >>= λ ms. rows_of false ms) else
    (if bytes_eq key conda_key then (members_of (Some d) >>= λ ms. rows_of true ms) else Ok [])
