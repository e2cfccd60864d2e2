-- The grammar of constraints as trees: what a tree is spelled by, and what it says (docs/FORMATS.md, "Constraints").
use Rattle.std.specs.Prelude.{◌≡◌, ℕ, suc, ◌&&◌, ◌||◌, ◌≤◌, max, Bool, List, [], ◌∷◌, ◌++◌, Result, IsOk, IsTrue}
use Rattle.conda_version.specs.Version.{Value}
use Rattle.conda_version.specs.Constraint.{most_levels}
use Rattle.conda_version.specs.Grammar.{version_of}
use Rattle.conda_version.specs.Leaf.{leaf_of}
use Rattle.conda_version.specs.Token.{Token, leaf, left, right, and, or}
use Rattle.conda_version.specs.Allowing.{passes_leaf, signs_of}
use Rattle.conda_version.specs.declared.fault.VersionFault.{VersionFault}

mutual
  -- any = all *( "|" all )
  pub data Any : Type 0 where
    one : All → Any
    either : All → Any → Any

  -- all = item *( "," item )
  pub data All : Type 0 where
    single : Item → All
    both : Item → All → All

  -- item = "(" any ")" / leaf
  pub data Item : Type 0 where
    group : Any → Item
    plain : List ℕ → Item

-- the tokens that spell an `any`, an `all` and an `item`
abbrev mutual
  pub spell_any : Any → List Token
  spell_any (one a) = spell_all a
  spell_any (either a x) = spell_all a ++ or ∷ spell_any x

  pub spell_all : All → List Token
  spell_all (single i) = spell_item i
  spell_all (both i a) = spell_item i ++ and ∷ spell_all a

  pub spell_item : Item → List Token
  spell_item (group x) = left ∷ spell_any x ++ right ∷ []
  spell_item (plain text) = leaf text ∷ []

-- what a tree says of a version: `|` means or, `,` means and
abbrev mutual
  pub any_holds : Result Value VersionFault → Any → Bool
  any_holds version (one a) = all_holds version a
  any_holds version (either a x) = all_holds version a || any_holds version x

  pub all_holds : Result Value VersionFault → All → Bool
  all_holds version (single i) = item_holds version i
  all_holds version (both i a) = item_holds version i && all_holds version a

  pub item_holds : Result Value VersionFault → Item → Bool
  item_holds version (group x) = any_holds version x
  item_holds version (plain text) = passes_leaf version text

-- how many parentheses stand round one another
abbrev mutual
  pub any_depth : Any → ℕ
  any_depth (one a) = all_depth a
  any_depth (either a x) = max (all_depth a) (any_depth x)

  pub all_depth : All → ℕ
  all_depth (single i) = item_depth i
  all_depth (both i a) = max (item_depth i) (all_depth a)

  pub item_depth : Item → ℕ
  item_depth (group x) = suc (any_depth x)
  item_depth (plain text) = 0

-- each leaf has a reading
abbrev mutual
  pub AnyReads : Any → Type 0
  AnyReads (one a) = AllReads a
  AnyReads (either a x) = AllReads a × AnyReads x

  pub AllReads : All → Type 0
  AllReads (single i) = ItemReads i
  AllReads (both i a) = ItemReads i × AllReads a

  pub ItemReads : Item → Type 0
  ItemReads (group x) = AnyReads x
  ItemReads (plain text) = IsOk (leaf_of text)

-- the tree is the constraint that a text spells: in the grammar, each leaf with a reading, no deeper than allowed
pub record IsTreeOf (text : List ℕ) (tree : Any) : Type 0 where
  pub spelled : signs_of text ≡ spell_any tree
  pub reads : AnyReads tree
  pub shallow : any_depth tree ≤ most_levels

-- a constraint allows a version, both as texts: the tree that the first spells says so
pub record Allows (constraint version : List ℕ) : Type 0 where
  pub tree : Any
  pub spelled : IsTreeOf constraint tree
  pub says : IsTrue (any_holds (version_of version) tree)

-- a text spells a constraint
abbrev pub HasTree : List ℕ → Type 0
HasTree text = (tree : Any) × IsTreeOf text tree
