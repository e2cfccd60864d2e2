-- The keys of a spec's bracket (docs/FORMATS.md, "Specs").

-- a key of the bracket
pub data Key : Type 0 where
  version : Key
  build : Key
  build_number : Key
  channel : Key
  subdir : Key
  md5 : Key
  sha256 : Key
  -- `fn`
  file : Key
