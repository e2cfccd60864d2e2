-- The rows of `repodata.json` in their order, by the names of their packages.
use Rattle.std.specs.Prelude.{◌≡◌, ◌≢◌, ℕ, Bool, List, [], ◌∷◌, map, if◌then◌else◌}
use Rattle.std.specs.Ordering.{nat_cmp}
use Rattle.std.specs.Cmp.Lexicographic.{slice_cmp}
use Rattle.std.specs.List.{All, filter}
use Rattle.std.specs.List.Sorted.{IsSortedBy, IsStableBy, IsStrictlySortedBy, IsPermutation}
use Rattle.std.specs.Str.{bytes_eq}
use Rattle.conda_name.specs.Name.{IsName, lower_case}
use Rattle.shard_file.specs.Rows.{Row, file_lt}

-- the name of a row's package, in lower case
abbrev pub name_in : Row → List ℕ
name_in r = lower_case r.fields.name

-- the name of a row's package is a package name
abbrev pub IsNamed : Row → Type 0
IsNamed r = IsName (name_in r)

-- a row is one of the package of this name
abbrev pub is_named : List ℕ → Row → Bool
is_named name r = bytes_eq name (name_in r)

-- the rows of one package
pub record Group : Type 0 where
  pub name : List ℕ
  pub rows : List Row

-- the rows of the group of this name, or none
abbrev pub rows_under : List ℕ → List Group → List Row
rows_under name [] = []
rows_under name (g ∷ gs) = if bytes_eq name g.name then g.rows else rows_under name gs

-- some rows in the order of their file names; those of one file name stay as they stood
pub record InOrder (stood rows : List Row) : Type 0 where
  pub ascending : IsSortedBy file_lt rows
  pub in_order : IsStableBy file_lt stood rows
  pub same : IsPermutation stood rows

-- the groups of some rows: one for each name that a row has, ascending by the names, with the rows of that name in their order
pub record AreGroupsOf (rows : List Row) (groups : List Group) : Type 0 where
  pub ascending : IsStrictlySortedBy (slice_cmp nat_cmp) (map (λ g. g.name) groups)
  pub each : (name : List ℕ) → rows_under name groups ≡ filter (is_named name) rows
  pub some : All (λ g. g.rows ≢ []) groups
  pub named : All IsName (map (λ g. g.name) groups)
