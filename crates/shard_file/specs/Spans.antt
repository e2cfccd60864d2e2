-- The row of a file whose texts are spans of some bytes.
use Rattle.std.specs.Prelude.{◌≡◌, ℕ, List, map}
use Rattle.std.specs.List.{All}
use Rattle.mp_codec.specs.Span.{raw_at, text_at}
use Rattle.conda_record.specs.Places.{fields_at}
use Rattle.shard_file.specs.declared.spans.FileSpans.{FileSpans}
use Rattle.shard_file.specs.Rows.{Row}

-- the row, each text as it stands in these bytes
abbrev pub row_at : List ℕ → FileSpans → Row
row_at bytes r = record { file = text_at bytes r.file; conda = r.conda; fields = fields_at bytes r.value }

-- the rows of some files
abbrev pub rows_at : List ℕ → List FileSpans → List Row
rows_at bytes rs = map (row_at bytes) rs

-- the bytes at the span of each file name are text
pub record AreNamed (bytes : List ℕ) (rs : List FileSpans) : Type 0 where
  pub each : All (λ r. raw_at bytes r.file ≡ text_at bytes r.file) rs
