-- The data that a tree is; for private clauses.
use Rattle.json.specs.Value.{value_view}
use Rattle.serde_json.specs.Data.{Data}
use Rattle.conda_record.specs.Tree.{data_of}
use Rattle.conda_record.specs.declared.tree.Tree.{Tree}

-- the data of its value
abbrev pub data_in : Tree → Data
data_in tree = data_of (value_view tree.value.now)
