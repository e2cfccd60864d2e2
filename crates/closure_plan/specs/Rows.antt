-- The rows of an answer, by their places.
use Rattle.std.specs.Prelude.{◌≡◌, ℕ, Bool, false, List, [], ◌∷◌, ◌++◌, map, true, is_some, Option, Some, None, if◌then◌else◌}
use Rattle.std.specs.List.{AllByRecursion, slice_get, slice_index_or}
use Rattle.shard_file.specs.Rows.{Row}
use Rattle.closure_plan.specs.declared.answer.RowPlace.{RowPlace}
use Rattle.closure_request.specs.Request.{Asking}
use Rattle.closure_plan.specs.Given.{LeafRows, given_of}
use Rattle.closure_plan.specs.Closure.{Found, found}

-- no row
abbrev pub no_row : Row
no_row = record {
  file = [];
  conda = false;
  fields = record {
    name = [];
    version = [];
    build = [];
    build_number = 0;
    depends = [];
    constrains = [];
    subdir = None;
    md5 = None;
    sha256 = None;
    size = None;
    timestamp = None;
    license = None;
    noarch = None;
  };
}

-- no leaf
abbrev pub no_leaf : LeafRows
no_leaf = record { slot = 0; name = []; rows = [] }

-- the row of a place
abbrev pub row_of_place : List LeafRows → RowPlace → Row
row_of_place leaves p = slice_index_or (slice_index_or leaves p.leaf no_leaf).rows p.row no_row

-- what stands at a place of an answer
abbrev pub found_at : Asking → List LeafRows → RowPlace → Found
found_at r leaves p = found r p.slot (row_of_place leaves p)

-- the leaf of a place
abbrev pub leaf_or_none : List LeafRows → ℕ → LeafRows
leaf_or_none leaves i = slice_index_or leaves i no_leaf

-- the row of a place is there
abbrev pub IsThere : List LeafRows → RowPlace → Type 0
IsThere leaves p = is_some (slice_get (leaf_or_none leaves p.leaf).rows p.row) ≡ true

-- places that were there, with those of some rows behind them, which are there too
pub record Adds (r : Asking) (leaves : List LeafRows) (old new : List RowPlace) (rows : List Found) : Type 0 where
  pub are : map (found_at r leaves) new ≡ map (found_at r leaves) old ++ rows
  pub there : AllByRecursion (IsThere leaves) old → AllByRecursion (IsThere leaves) new

-- the given rows of a leaf
abbrev pub given_in : Asking → LeafRows → List Found
given_in r l = map (found r l.slot) (given_of r l.slot l.name l.rows)

-- a place, where there is a row and it passes
abbrev pub place_if : (Row → Bool) → Option Row → RowPlace → List RowPlace
place_if p None at = []
place_if p (Some row) at = if p row then at ∷ [] else []
