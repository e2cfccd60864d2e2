-- The operators that may stand before the version of a leaf (docs/FORMATS.md, "Constraints").

-- what stands before the version of a leaf
pub data Operator : Type 0 where
  -- nothing
  bare : Operator
  -- `=`
  equal : Operator
  -- `==`
  exact : Operator
  -- `!=`
  not_equal : Operator
  -- `<`
  less : Operator
  -- `<=`
  at_most : Operator
  -- `>`
  greater : Operator
  -- `>=`
  at_least : Operator
  -- `~=`
  compatible : Operator
