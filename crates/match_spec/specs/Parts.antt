-- What a spec asks for, part by part (docs/FORMATS.md, "Specs").
use Rattle.std.specs.Prelude.{ℕ, List, Option, Some, None}
use Rattle.match_spec.specs.Number.{NumberTest}

-- the parts beside the name, each where the spec has it; a constraint is its text, a digest its bytes
pub record Parts : Type 0 where
  pub version : Option (List ℕ)
  pub build : Option (List ℕ)
  pub build_number : Option NumberTest
  pub channel : Option (List ℕ)
  pub subdir : Option (List ℕ)
  pub md5 : Option (List ℕ)
  pub sha256 : Option (List ℕ)
  pub file : Option (List ℕ)

-- a spec: the name in lower case, and the parts
pub record Meaning : Type 0 where
  pub name : List ℕ
  pub parts : Parts

-- no parts
abbrev pub no_parts : Parts
no_parts = record {
  version = None;
  build = None;
  build_number = None;
  channel = None;
  subdir = None;
  md5 = None;
  sha256 = None;
  file = None;
}

-- the first of two parts, where it is there, else the second
abbrev pub part_or : {A : Type 0} → Option A → Option A → Option A
part_or None outer = outer
part_or (Some a) outer = Some a

-- the parts of a bracket, and those outside it that it leaves standing
abbrev pub replaced : Parts → Parts → Parts
replaced inner outer = record {
  version = part_or inner.version outer.version;
  build = part_or inner.build outer.build;
  build_number = part_or inner.build_number outer.build_number;
  channel = part_or inner.channel outer.channel;
  subdir = part_or inner.subdir outer.subdir;
  md5 = part_or inner.md5 outer.md5;
  sha256 = part_or inner.sha256 outer.sha256;
  file = part_or inner.file outer.file;
}
