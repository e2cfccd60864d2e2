-- How a version may have to stand to the one of a leaf (docs/FORMATS.md, "Constraints").

-- how a version has to stand to the one of a leaf
pub data Relation : Type 0 where
  -- it equals that one
  equal : Relation
  -- it doesn't equal that one
  not_equal : Relation
  -- it starts with that one
  starts : Relation
  -- it doesn't start with that one
  starts_otherwise : Relation
  -- it is below that one
  less : Relation
  -- it is that one or below it
  at_most : Relation
  -- it is above that one
  greater : Relation
  -- it is that one or above it
  at_least : Relation
