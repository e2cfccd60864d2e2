-- The test of a match says that the name and each part fit.
use Rattle.std.proofs.Common.{◌≡◌, ℕ, List, Bool, true, false, refl, sym, ap, ◌∙◌}
use Rattle.std.specs.Prelude.{◌&&◌, ◌↔◌, IfSome, IsTrue, Option, None, Some}
use Rattle.std.specs.Cmp.Lexicographic.{bytes_decides}
use Rattle.std.proofs.lemmas.Bool.{false≢true}
use Rattle.conda_name.specs.Name.{lower_case}
use Rattle.conda_record.specs.Record.{Fields}
use Rattle.conda_version.specs.Allowing.{allows}
use Rattle.conda_version.specs.Leaf.{is_text}
use Rattle.conda_version.specs.Tree.{Allows}
use Rattle.conda_version.proofs.TreeLemmas.{allows-means}
use Rattle.match_spec.specs.Legal.{IsSpec}
use Rattle.match_spec.specs.Matching.{Matches, fits_digests, fits_place, fits_version, is_digest, matches, unless_there}
use Rattle.match_spec.specs.Number.{passes}
use Rattle.match_spec.specs.Parts.{Meaning}
use Rattle.match_spec.specs.StarBuild.{FitsBuild, fits_build}
use Rattle.match_spec.proofs.StarLemmas.{fits-means}

-- both of two
both : (a b : Bool) → (a && b) ≡ true → (a ≡ true) × (b ≡ true)
both true b e = (refl, e)
both false b e = absurd (false≢true e)

-- two that hold
join : (a b : Bool) → a ≡ true → b ≡ true → (a && b) ≡ true
join a b e f = rw (e, f) refl

-- a part that is there passes its test exactly where it fits
part-to : {A : Type 0} (o : Option A) (passed : A → Bool) (P : A → Type 0) → ((a : A) → o ≡ Some a → passed a ≡ true → P a) → unless_there o passed ≡ true → IfSome o P
part-to None passed P means e = tt
part-to (Some a) passed P means e = means a refl e

part-from : {A : Type 0} (o : Option A) (passed : A → Bool) (P : A → Type 0) → ((a : A) → o ≡ Some a → P a → passed a ≡ true) → IfSome o P → unless_there o passed ≡ true
part-from None passed P means h = refl
part-from (Some a) passed P means h = means a refl h

-- a digest is there and is this one
digest-to : (found : Option (List ℕ)) (d : List ℕ) → is_digest found d ≡ true → found ≡ Some d
digest-to None d e = absurd (false≢true e)
digest-to (Some f) d e = ap (λ t. Some t) ((bytes_decides f d).0 e)

digest-from : (found : Option (List ℕ)) (d : List ℕ) → found ≡ Some d → is_digest found d ≡ true
digest-from None d e = cc e
digest-from (Some f) d e = (bytes_decides f d).1 (cc e)

-- a spec matches a record exactly where its name and each part fit
pub matches-to : (spec : Meaning) (row : Fields) (channel subdir file : List ℕ) → IsSpec spec → matches spec row channel subdir file ≡ true → Matches spec row channel subdir file
unfolding matches
matches-to spec row channel subdir file legal e =
    let p = spec.parts in
    let named = both (is_text (lower_case row.name) spec.name) _ e in
    let rest = both (fits_version p row) _ named.1 in
    let first = both (unless_there p.version (λ constraint. allows constraint row.version)) _ rest.0 in
    let second = both (unless_there p.build (λ build. fits_build build row.build)) _ first.1 in
    let later = both (fits_digests p row) _ rest.1 in
    let digests = both (unless_there p.md5 (is_digest row.md5)) _ later.0 in
    let place = both (unless_there p.channel (λ wanted. is_text wanted channel)) _ later.1 in
    let slot = both (unless_there p.subdir (λ wanted. is_text wanted subdir)) _ place.1 in
    record {
      name = (bytes_decides (lower_case row.name) spec.name).0 named.0;
      version = part-to p.version (λ constraint. allows constraint row.version) (λ constraint. Allows constraint row.version) (λ a is h. (allows-means a row.version (legal.version a is)).0 h) first.0;
      build = part-to p.build (λ build. fits_build build row.build) (λ build. FitsBuild build row.build) (λ a is h. (fits-means a row.build).0 h) second.0;
      build_number = part-to p.build_number (λ wanted. passes wanted row.build_number) (λ wanted. IsTrue (passes wanted row.build_number)) (λ a is h. h) second.1;
      in_channel = part-to p.channel (λ wanted. is_text wanted channel) (λ wanted. wanted ≡ channel) (λ a is h. (bytes_decides a channel).0 h) place.0;
      in_subdir = part-to p.subdir (λ wanted. is_text wanted subdir) (λ wanted. wanted ≡ subdir) (λ a is h. (bytes_decides a subdir).0 h) slot.0;
      md5 = part-to p.md5 (is_digest row.md5) (λ digest. row.md5 ≡ Some digest) (λ a is h. digest-to row.md5 a h) digests.0;
      sha256 = part-to p.sha256 (is_digest row.sha256) (λ digest. row.sha256 ≡ Some digest) (λ a is h. digest-to row.sha256 a h) digests.1;
      is_file = part-to p.file (λ wanted. is_text wanted file) (λ wanted. wanted ≡ file) (λ a is h. (bytes_decides a file).0 h) slot.1;
    }

pub matches-from : (spec : Meaning) (row : Fields) (channel subdir file : List ℕ) → IsSpec spec → Matches spec row channel subdir file → matches spec row channel subdir file ≡ true
unfolding matches
matches-from spec row channel subdir file legal m =
    let p = spec.parts in
    let version = part-from p.version (λ constraint. allows constraint row.version) (λ constraint. Allows constraint row.version) (λ a is h. (allows-means a row.version (legal.version a is)).1 h) m.version in
    let build = part-from p.build (λ build. fits_build build row.build) (λ build. FitsBuild build row.build) (λ a is h. (fits-means a row.build).1 h) m.build in
    let number = part-from p.build_number (λ wanted. passes wanted row.build_number) (λ wanted. IsTrue (passes wanted row.build_number)) (λ a is h. h) m.build_number in
    let in_channel = part-from p.channel (λ wanted. is_text wanted channel) (λ wanted. wanted ≡ channel) (λ a is h. (bytes_decides a channel).1 h) m.in_channel in
    let in_subdir = part-from p.subdir (λ wanted. is_text wanted subdir) (λ wanted. wanted ≡ subdir) (λ a is h. (bytes_decides a subdir).1 h) m.in_subdir in
    let md5 = part-from p.md5 (is_digest row.md5) (λ digest. row.md5 ≡ Some digest) (λ a is h. digest-from row.md5 a h) m.md5 in
    let sha256 = part-from p.sha256 (is_digest row.sha256) (λ digest. row.sha256 ≡ Some digest) (λ a is h. digest-from row.sha256 a h) m.sha256 in
    let is_file = part-from p.file (λ wanted. is_text wanted file) (λ wanted. wanted ≡ file) (λ a is h. (bytes_decides a file).1 h) m.is_file in
    let fits : fits_version p row ≡ true = join _ _ version (join _ _ build number) in
    let digests : fits_digests p row ≡ true = join _ _ md5 sha256 in
    let place : fits_place p channel subdir file ≡ true = join _ _ in_channel (join _ _ in_subdir is_file) in
    join _ _ ((bytes_decides (lower_case row.name) spec.name).1 m.name) (join _ _ fits (join _ _ digests place))

-- so does what the code answers
pub matches-means : (answer : Bool) (spec : Meaning) (row : Fields) (channel subdir file : List ℕ) → IsSpec spec → answer ≡ matches spec row channel subdir file → IsTrue answer ↔ Matches spec row channel subdir file
matches-means answer spec row channel subdir file legal e =
    (λ h. matches-to spec row channel subdir file legal (sym e ∙ h), λ m. e ∙ matches-from spec row channel subdir file legal m)
