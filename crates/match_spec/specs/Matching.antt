-- Which records a spec matches (docs/FORMATS.md, "Specs").
use Rattle.std.specs.Prelude.{◌≡◌, ℕ, ◌&&◌, Bool, true, false, List, Option, Some, None, IfSome, IsTrue}
use Rattle.conda_name.specs.Name.{lower_case}
use Rattle.conda_record.specs.Record.{Fields}
use Rattle.conda_version.specs.Allowing.{allows}
use Rattle.conda_version.specs.Leaf.{is_text}
use Rattle.conda_version.specs.Tree.{Allows}
use Rattle.match_spec.specs.Number.{passes}
use Rattle.match_spec.specs.Parts.{Meaning, Parts}
use Rattle.match_spec.specs.StarBuild.{FitsBuild, fits_build}

-- the record of a file in a channel's subdir is one that the spec asks for: it has the name, in lower case, and fits
-- each part that is there
pub record Matches (spec : Meaning) (row : Fields) (channel subdir file : List ℕ) : Type 0 where
  pub name : lower_case row.name ≡ spec.name
  pub version : IfSome spec.parts.version (λ constraint. Allows constraint row.version)
  pub build : IfSome spec.parts.build (λ build. FitsBuild build row.build)
  pub build_number : IfSome spec.parts.build_number (λ wanted. IsTrue (passes wanted row.build_number))
  pub in_channel : IfSome spec.parts.channel (λ wanted. wanted ≡ channel)
  pub in_subdir : IfSome spec.parts.subdir (λ wanted. wanted ≡ subdir)
  pub md5 : IfSome spec.parts.md5 (λ digest. row.md5 ≡ Some digest)
  pub sha256 : IfSome spec.parts.sha256 (λ digest. row.sha256 ≡ Some digest)
  pub is_file : IfSome spec.parts.file (λ wanted. wanted ≡ file)

-- ---- the same as a test

-- whether a part is missing or passes a test
abbrev pub unless_there : {A : Type 0} → Option A → (A → Bool) → Bool
unless_there None passed = true
unless_there (Some a) passed = passed a

-- whether a digest is there and is this one
abbrev pub is_digest : Option (List ℕ) → List ℕ → Bool
is_digest None digest = false
is_digest (Some found) digest = is_text found digest

-- whether the version, the build and the build number are missing or fit
abbrev pub fits_version : Parts → Fields → Bool
fits_version parts row =
    unless_there parts.version (λ constraint. allows constraint row.version)
    && (unless_there parts.build (λ build. fits_build build row.build)
    && unless_there parts.build_number (λ wanted. passes wanted row.build_number))

-- whether the digests are missing or fit
abbrev pub fits_digests : Parts → Fields → Bool
fits_digests parts row =
    unless_there parts.md5 (is_digest row.md5) && unless_there parts.sha256 (is_digest row.sha256)

-- whether each part that the place of the file decides is missing or fits
abbrev pub fits_place : Parts → List ℕ → List ℕ → List ℕ → Bool
fits_place parts channel subdir file =
    unless_there parts.channel (λ wanted. is_text wanted channel)
    && (unless_there parts.subdir (λ wanted. is_text wanted subdir)
    && unless_there parts.file (λ wanted. is_text wanted file))

-- whether a spec matches the record of a file in a channel's subdir
unfoldable pub matches : Meaning → Fields → List ℕ → List ℕ → List ℕ → Bool
matches spec row channel subdir file =
    is_text (lower_case row.name) spec.name
    && (fits_version spec.parts row && (fits_digests spec.parts row && fits_place spec.parts channel subdir file))
