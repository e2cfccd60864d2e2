-- The groups that are open, in an array. No public clause cites it.
use Rattle.std.specs.Prelude.{ℕ, zero, suc, ◌≤◌, ◌<◌, false, List, [], ◌∷◌, slice_index_or}
use Rattle.conda_version.specs.Token.{Token, leaf, left, right, and, or}
use Rattle.conda_version.specs.Allowing.{Group}
use Rattle.conda_version.specs.declared.level.Level.{Level}
use Rattle.conda_version.specs.declared.level.TheConstants.{LEVELS}

-- the group that the code holds
abbrev pub group_in : Level → Group
group_in l = record { held = l.held; all = l.all }

-- what stands where no group does
abbrev pub no_level : Level
no_level = record { held = false; all = false }

-- the first groups of an array, the last of them first
abbrev pub stack : List Level → ℕ → List Group
stack outer zero = []
stack outer (suc depth) = group_in (slice_index_or outer depth no_level) ∷ stack outer depth

-- a token can come where so many groups are open
abbrev pub HasRoom : Token → ℕ → Type 0
HasRoom (leaf text) count = Unit {0}
HasRoom left count = count ≤ LEVELS
HasRoom right count = 1 < count
HasRoom and count = Unit {0}
HasRoom or count = Unit {0}
