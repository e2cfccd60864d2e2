-- How a build number may have to stand to another one (docs/FORMATS.md, "Specs").

-- how a build number has to stand to that of a test
pub data Comparison : Type 0 where
  -- `==`, or nothing
  equal : Comparison
  -- `!=`
  not_equal : Comparison
  -- `<`
  less : Comparison
  -- `<=`
  at_most : Comparison
  -- `>`
  greater : Comparison
  -- `>=`
  at_least : Comparison
