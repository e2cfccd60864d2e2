-- The data that a JSON value with its numbers as text is; for private clauses.
use Rattle.std.specs.Prelude.{List, ℕ, [], Option, Some, unwrap_or}
use Rattle.json.specs.Json.{Json, Items, no_items, item}
use Rattle.json.specs.Find.{as_str}
use Rattle.serde_json.specs.Data.{Data, null}
use Rattle.serde_json.specs.Read.{of_json}
use Rattle.conda_record.specs.Json.{both}

-- the data of a value whose numbers are all in range
abbrev pub data_of : Json → Data
data_of j = unwrap_or (of_json j) null

-- the texts of some elements, if each is one
abbrev pub tree_texts : Items → Option (List (List ℕ))
tree_texts no_items = Some []
tree_texts (item j js) = both (as_str j) (tree_texts js)
