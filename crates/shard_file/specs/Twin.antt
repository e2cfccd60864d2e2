-- The twin of a row: the same package in the newer format.
use Rattle.std.specs.Prelude.{ℕ, ◌-◌, Bool, false, ◌&&◌, List, ◌++◌, drop, take, length, Option, Some, None, if◌then◌else◌, position, slice_get, codes}
use Rattle.std.specs.Option.{option_and_then}
use Rattle.std.specs.Str.{bytes_eq, str_eq_ignore_ascii_case}
use Rattle.shard_file.specs.Rows.{Row}

-- the ending of files in the older format
abbrev pub older_ending : List ℕ
older_ending = codes ".tar.bz2"

-- the ending of files in the newer format
abbrev pub newer_ending : List ℕ
newer_ending = codes ".conda"

-- the text before an ending, if a text has the ending
abbrev pub before_ending : List ℕ → List ℕ → Option (List ℕ)
before_ending ending text =
    if bytes_eq (drop (length text - length ending) text) ending then Some (take (length text - length ending) text) else None

-- whether a row is from packages.conda, its file is this one, and its record has this name, up to the case of letters
abbrev pub is_newer : List ℕ → List ℕ → Row → Bool
is_newer file name row = row.conda && (bytes_eq row.file file && str_eq_ignore_ascii_case row.fields.name name)

-- whether there is a row, and it passes a test
abbrev pub row_passes : (Row → Bool) → Option Row → Bool
row_passes p None = false
row_passes p (Some row) = p row

-- the place of the row of the newer format, where the text before the ending of the older one is known
abbrev pub newer_at : List Row → List ℕ → Option (List ℕ) → Option ℕ
newer_at rows name None = None
newer_at rows name (Some stem) = position (is_newer (stem ++ newer_ending) name) rows

-- the place of the twin of a row, which is itself not from packages.conda
abbrev pub twin_of : List Row → Row → Option ℕ
twin_of rows row = if row.conda then None else newer_at rows row.fields.name (before_ending older_ending row.file)

-- the place of the twin of the row of a place, if there is such a row and it has one
abbrev pub twin_at : List Row → ℕ → Option ℕ
twin_at rows i = option_and_then (twin_of rows) (slice_get rows i)
