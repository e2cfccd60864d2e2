-- Which versions a constraint allows (docs/FORMATS.md, "Constraints").
use Rattle.std.specs.Prelude.{ℕ, ◌&&◌, ◌||◌, Bool, true, false, List, [], ◌∷◌, map, Result, Ok, Err}
use Rattle.conda_version.specs.Version.{Value}
use Rattle.conda_version.specs.Grammar.{version_of}
use Rattle.conda_version.specs.Leaf.{Test, leaf_of, passes}
use Rattle.conda_version.specs.Token.{Placed, Token, leaf, left, right, and, or, tokens}
use Rattle.conda_version.specs.declared.fault.ConstraintFault.{ConstraintFault}
use Rattle.conda_version.specs.declared.fault.VersionFault.{VersionFault}

-- ---- one leaf

-- whether a version passes the test of a leaf, which none does where the leaf has no reading
abbrev pub passes_read : Result Value VersionFault → Result Test ConstraintFault → Bool
passes_read version (Ok test) = passes version test
passes_read version (Err f) = false

-- whether a version passes a leaf
abbrev pub passes_leaf : Result Value VersionFault → List ℕ → Bool
passes_leaf version text = passes_read version (leaf_of text)

-- ---- a text, group by group

-- a group that is open: whether an alternative before this one holds, and whether all items of this one have so far
pub record Group : Type 0 where
  pub held : Bool
  pub all : Bool

-- a group in which nothing has been read yet
abbrev pub fresh : Group
fresh = record { held = false; all = true }

-- a group with one item more
abbrev pub with_item : Group → Bool → Group
with_item l holds = record { held = l.held; all = l.all && holds }

-- what a group says at its end: one of its alternatives holds
abbrev pub answer : Group → Bool
answer l = l.held || l.all

-- a group with one alternative more
abbrev pub with_alternative : Group → Group
with_alternative l = record { held = answer l; all = true }

-- a change of the innermost group
abbrev pub on_inner : (Group → Group) → List Group → List Group
on_inner change [] = []
on_inner change (l ∷ outer) = change l ∷ outer

-- the innermost group, as an item of the one round it
abbrev pub close_inner : List Group → List Group
close_inner [] = []
close_inner (l ∷ []) = l ∷ []
close_inner (l ∷ (m ∷ outer)) = with_item m (answer l) ∷ outer

-- the groups that are open behind a token, the innermost first
abbrev pub groups_behind : Result Value VersionFault → List Group → Token → List Group
groups_behind version ls (leaf text) = on_inner (λ l. with_item l (passes_leaf version text)) ls
groups_behind version ls left = fresh ∷ ls
groups_behind version ls right = close_inner ls
groups_behind version ls and = ls
groups_behind version ls or = on_inner with_alternative ls

-- the groups that are open behind some tokens
abbrev pub groups_after : Result Value VersionFault → List Group → List Token → List Group
groups_after version ls [] = ls
groups_after version ls (t ∷ ts) = groups_after version (groups_behind version ls t) ts

-- what the outermost group says
abbrev pub answer_of : List Group → Bool
answer_of [] = false
answer_of (l ∷ []) = answer l
answer_of (l ∷ (m ∷ ls)) = answer_of (m ∷ ls)

-- the tokens of a text, without their places
abbrev pub signs_of : List ℕ → List Token
signs_of text = map (λ (p : Placed). p.token) (tokens text)

-- whether a constraint's text allows what a version's text reads as
abbrev pub allowed_by : Result Value VersionFault → List ℕ → Bool
allowed_by version constraint = answer_of (groups_after version (fresh ∷ []) (signs_of constraint))

-- whether a constraint allows a version, both as texts
unfoldable pub allows : List ℕ → List ℕ → Bool
allows constraint version = allowed_by (version_of version) constraint
