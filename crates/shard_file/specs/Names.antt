-- Names that were met, and a name that is none of them.
use Rattle.std.specs.Prelude.{◌≡◌, ℕ, ◌-◌, Bool, true, ◌||◌, List, length, slice_get, IfSome}
use Rattle.std.specs.Ordering.{is_lt, nat_cmp}
use Rattle.std.specs.List.{list_any}
use Rattle.std.specs.List.Sorted.{IsSortedBy}
use Rattle.std.specs.Str.{bytes_eq}
use Rattle.std.specs.Borrow.{Bor}
use Rattle.std.specs.Cmp.Lexicographic.{slice_cmp}
use Rattle.std.specs.BTreeSet.{contains_by}
use Rattle.shard_file.specs.declared.names.Names.{Names}

-- the first name is below the second, by bytes
abbrev pub name_lt : Bor (List ℕ) → Bor (List ℕ) → Bool
name_lt a b = is_lt (slice_cmp nat_cmp a.now b.now)

-- no name is below the one before it
abbrev pub IsRising : List (Bor (List ℕ)) → Type 0
IsRising names = IsSortedBy name_lt names

-- the names that rose do so
abbrev pub AreRising : Names → Type 0
AreRising names = IsRising names.rising.items

-- the last of the names is below this one
abbrev pub IsBehind : List ℕ → List (Bor (List ℕ)) → Type 0
IsBehind name names = IfSome (slice_get names (length names - 1)) (λ last. is_lt (slice_cmp nat_cmp last.now name) ≡ true)

-- this name is one of them
abbrev pub is_among : List (Bor (List ℕ)) → List ℕ → Bool
is_among names name = list_any (λ k. bytes_eq k.now name) names

-- this name was met: it is one of those that rose, or of the others
abbrev pub has_name : Names → List ℕ → Bool
has_name names name = is_among names.rising.items name || contains_by (λ k. slice_cmp nat_cmp name k.now) names.others
