-- What each part of a spec is, where it is there (docs/FORMATS.md, "Specs").
use Rattle.std.specs.Prelude.{◌≡◌, ◌<◌, ◌^◌, false, true, length, None}
use Rattle.std.specs.Option.{ForSome}
use Rattle.hex.specs.Hex.{IsBytes}
use Rattle.conda_name.specs.Name.{IsName}
use Rattle.conda_version.specs.Constraint.{constraint_fault}
use Rattle.byte_text.specs.Text.{is_nil}
use Rattle.match_spec.specs.Number.{NumberTest}
use Rattle.match_spec.specs.Parts.{Meaning}
use Rattle.match_spec.specs.Reading.{is_build}

-- a name in lower case, a constraint without a fault, a build, a number that fits, texts that aren't empty, and digests
-- of their lengths: so is every spec that is read
pub record IsSpec (spec : Meaning) : Type 0 where
  pub name : IsName spec.name
  pub version : ForSome spec.parts.version (λ constraint. constraint_fault constraint ≡ None)
  pub build : ForSome spec.parts.build (λ build. is_build build ≡ true)
  pub build_number : ForSome spec.parts.build_number (λ (wanted : NumberTest). wanted.number < 2 ^ 64)
  pub in_channel : ForSome spec.parts.channel (λ wanted. is_nil wanted ≡ false)
  pub in_subdir : ForSome spec.parts.subdir (λ wanted. is_nil wanted ≡ false)
  pub md5 : ForSome spec.parts.md5 (λ digest. (length digest ≡ 16) × IsBytes digest)
  pub sha256 : ForSome spec.parts.sha256 (λ digest. (length digest ≡ 32) × IsBytes digest)
  pub is_file : ForSome spec.parts.file (λ wanted. is_nil wanted ≡ false)
