-- The records of a name in a slot, and those of them that a request is given.
use Rattle.std.specs.Prelude.{ℕ, ◌==◌, ◌&&◌, ◌||◌, not, Bool, true, false, List, [], ◌++◌, is_some, if◌then◌else◌, Option, Some, None}
use Rattle.std.specs.List.{list_any, list_all, filter, find, slice_get, flat_map}
use Rattle.std.specs.Option.{option_flatten, option_map, option_to_list}
use Rattle.conda_name.specs.Name.{lower_case}
use Rattle.conda_name.specs.Dependency.{dependency_name}
use Rattle.std.specs.Str.{bytes_eq}
use Rattle.digest_gate.specs.declared.digest.Digest.{Digest}
use Rattle.match_spec.specs.Matching.{matches}
use Rattle.match_spec.specs.Parts.{Meaning}
use Rattle.shard_file.specs.Rows.{Row}
use Rattle.shard_file.specs.Twin.{before_ending, newer_ending, older_ending}
use Rattle.shard_index.specs.Index as indexes
use Rattle.closure_request.specs.declared.options.Format.{Format}
use Rattle.closure_request.specs.declared.options.Format.TheVariants as format
use Rattle.closure_request.specs.declared.options.Priority.{Priority}
use Rattle.closure_request.specs.declared.options.Priority.TheVariants as priority
use Rattle.closure_plan.specs.Names.{Name, is_name, has_name}
use Rattle.closure_request.specs.Request.{Asking, root_names}
use Rattle.closure_request.specs.Slots.{slot_at, is_earlier, numbers}

-- ---- pins and leaves

-- the contents of the index of each slot, where the slot is pinned
abbrev pub Pins : Type 0
Pins = List (Option indexes.Contents)

-- the rows of the shard of a name in a slot
pub record LeafRows : Type 0 where
  pub slot : ℕ
  pub name : Name
  pub rows : List Row

-- the index of a slot, if the slot is pinned
abbrev pub pin_at : Pins → ℕ → Option indexes.Contents
pin_at pins s = option_flatten (slice_get pins s)

-- whether a leaf is that of a name in a slot
abbrev pub is_at : ℕ → Name → LeafRows → Bool
is_at s n l = (l.slot == s) && is_name n l.name

-- the rows of a leaf, and none where there is no leaf
abbrev pub rows_of : Option LeafRows → List Row
rows_of None = []
rows_of (Some l) = l.rows

-- the rows of a name in a slot
abbrev pub rows_at : List LeafRows → ℕ → Name → List Row
rows_at leaves s n = rows_of (find (is_at s n) leaves)

-- ---- where a name is taken from

-- the digest that the index of a slot lists for a name
abbrev pub listed_digest : Option indexes.Contents → Name → Option Digest
listed_digest None n = None
listed_digest (Some index) n = indexes.digest_at n index.listed

-- whether a slot is pinned and its index doesn't list a name
abbrev pub is_without : Option indexes.Contents → Name → Bool
is_without None n = false
is_without (Some index) n = not (is_some (indexes.digest_at n index.listed))

-- whether a slot doesn't keep a name from being taken from another slot: it isn't of an earlier channel, or it is pinned
-- and its index doesn't list the name
abbrev pub lets : Asking → Pins → ℕ → Name → ℕ → Bool
lets r pins s n t = not (is_earlier r t s) || is_without (pin_at pins t) n

-- whether a name may be taken from a slot: always with flexible priority, and with strict priority where each slot of
-- each earlier channel is pinned and its index doesn't list the name
abbrev pub opens : Priority → Asking → Pins → ℕ → Name → Bool
opens priority.Flexible r pins s n = true
opens priority.Strict r pins s n = list_all (lets r pins s n) (numbers r)

-- the digest of the shard that is needed of a name in a slot, if one is: the slot's index lists the name, and the
-- name may be taken from there
abbrev pub wanted : Asking → Pins → ℕ → Name → Option Digest
wanted r pins s n = if opens r.priority r pins s n then listed_digest (pin_at pins s) n else None

-- ---- records

-- the name of the package of a row, in lower case
abbrev pub name_in : Row → Name
name_in row = lower_case row.fields.name

-- the rows of a name in a slot whose records have that name
abbrev pub named : Name → List Row → List Row
named n rows = filter (λ row. is_name n (name_in row)) rows

-- whether a row is from packages.conda, of the file that is a text followed by `.conda`
abbrev pub is_twin : List ℕ → Row → Bool
is_twin x row = row.conda && bytes_eq row.file (x ++ newer_ending)

-- whether rows have the twin of a file, if a text stands before its ending
abbrev pub has_twin : List Row → Option (List ℕ) → Bool
has_twin rows None = false
has_twin rows (Some x) = list_any (is_twin x) rows

-- whether a row is left out where files of packages.conda are preferred: it is from packages, its file is a text
-- followed by `.tar.bz2`, and there is a row from packages.conda whose file is that text followed by `.conda`
abbrev pub is_left_out : List Row → Row → Bool
is_left_out rows row = not row.conda && has_twin rows (before_ending older_ending row.file)

-- whether a format leaves a row of some rows
abbrev pub stays : Format → List Row → Row → Bool
stays format.All rows row = true
stays format.PreferConda rows row = not (is_left_out rows row)

-- the rows that a format leaves
abbrev pub kept_by : Format → List Row → List Row
kept_by f rows = filter (stays f rows) rows

-- whether a spec matches a row in a slot
abbrev pub hits : Asking → ℕ → Row → Meaning → Bool
hits r s row spec = matches spec row.fields (slot_at r s).channel.name (slot_at r s).subdir row.file

-- whether some spec of a request matches a row in a slot
abbrev pub is_matched : Asking → ℕ → Row → Bool
is_matched r s row = list_any (hits r s row) r.specs

-- whether a request asks for a row of a name: of a root name where some spec matches it, of another name always
abbrev pub is_asked : Asking → ℕ → Name → Row → Bool
is_asked r s n row = not (has_name (root_names r) n) || is_matched r s row

-- what a request is given of the rows of a name in a slot
abbrev pub given_of : Asking → ℕ → Name → List Row → List Row
given_of r s n rows = filter (is_asked r s n) (kept_by r.format (named n rows))

-- what a request is given of a name in a slot
abbrev pub given : Asking → Pins → List LeafRows → ℕ → Name → List Row
given r pins leaves s n = if is_some (wanted r pins s n) then given_of r s n (rows_at leaves s n) else []

-- ---- dependencies

-- the name that a text is about, in lower case
abbrev pub names_of_text : List ℕ → List Name
names_of_text text = option_to_list (option_map lower_case (dependency_name text))

-- the names that a row depends on
abbrev pub deps_of : Row → List Name
deps_of row = flat_map names_of_text row.fields.depends

-- ---- row by row

-- whether a request is given a row of the rows of a name in a slot
abbrev pub gives : Asking → ℕ → Name → List Row → Row → Bool
gives r s n rows row = (is_name n (name_in row) && stays r.format (named n rows) row) && is_asked r s n row

-- the row of a place, where there is one and it passes
abbrev pub passed : (Row → Bool) → Option Row → Option Row
passed p None = None
passed p (Some row) = if p row then Some row else None

-- the names that a row depends on, where there is one
abbrev pub deps_if : Option Row → List Name
deps_if None = []
deps_if (Some row) = deps_of row

-- the name that a text is about, where there is a text
abbrev pub names_if : Option (List ℕ) → List Name
names_if None = []
names_if (Some text) = names_of_text text
