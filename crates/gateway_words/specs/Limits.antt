-- The limit of the files that a channel serves (docs/FORMATS.md, "Places and store names").
use Rattle.std.specs.Prelude.{ℕ}

-- the most bytes of a shard and of an index, and so of a body that is fetched
abbrev pub most_served_bytes : ℕ
most_served_bytes = 33554432
