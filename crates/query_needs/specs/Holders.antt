-- Verdicts that are an index or a shard.
use Rattle.std.specs.Prelude.{ℕ, List, [], Bool, true, false, Option, Some, None}
use Rattle.shard_file.specs.Rows as shards
use Rattle.shard_index.specs.Index as indexes
use Rattle.fetch_flight.specs.declared.verdicts.Verdict.{Verdict}
use Rattle.fetch_flight.specs.declared.verdicts.Verdict.TheVariants.{Index, Shard, Wreck}

-- the verdict is an index
abbrev pub IsIndex : {L : Type 0} → Verdict L → Type 0
IsIndex (Index pin) = Unit {0}
IsIndex (Shard held) = ⊥
IsIndex (Wreck wreck) = ⊥

-- the verdict is a shard
abbrev pub IsShard : {L : Type 0} → Verdict L → Type 0
IsShard (Index pin) = ⊥
IsShard (Shard held) = Unit {0}
IsShard (Wreck wreck) = ⊥

-- an index that says nothing
abbrev pub no_index : indexes.Contents
no_index = record { info = record { base_url = []; shards_base_url = []; subdir = [] }; listed = [] }

-- what the index says that a verdict is
abbrev pub index_in : {L : Type 0} → Verdict L → indexes.Contents
index_in (Index pin) = pin.index
index_in (Shard held) = no_index
index_in (Wreck wreck) = no_index

-- the bytes and the rows of the shard that a verdict is
abbrev pub leaf_in : {L : Type 0} → Verdict L → shards.Contents
leaf_in (Index pin) = record { bytes = []; rows = [] }
leaf_in (Shard held) = held.leaf
leaf_in (Wreck wreck) = record { bytes = []; rows = [] }

-- where the shards of the index stand that a verdict is
abbrev pub shards_base_in : {L : Type 0} → Verdict L → List ℕ
shards_base_in (Index pin) = pin.shards_base
shards_base_in (Shard held) = []
shards_base_in (Wreck wreck) = []
