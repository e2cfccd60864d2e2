-- The version of an index, which is 1.
use Rattle.std.specs.Prelude.{◌≡◌, ℕ, ◌==◌, false, Option, Some, None, Ok, Err, if◌then◌else◌}
use Rattle.gateway_words.specs.Places.{Position}
use Rattle.gateway_words.specs.Reading.{◌>>=◌}
use Rattle.mp_codec.specs.declared.fault.FormatFault.{FormatFault}
use Rattle.mp_codec.specs.declared.fault.FaultKind.TheVariants as kind
use Rattle.mp_codec.specs.declared.head.Head.{Head}
use Rattle.mp_codec.specs.Value.{whole}
use Rattle.mp_codec.specs.Fault.{fault_here}
use Rattle.mp_codec.specs.Reading.{head_from}
use Rattle.mp_codec.specs.Maps.{Read}

-- what may be wrong with a version: it is no whole number, or another one than 1
pub data VersionFault : Position → FormatFault → Type 0 where
  no_number : {here there : Position} {h : Head} → head_from here ≡ Ok (h, there) → whole h ≡ None → VersionFault here (fault_here kind.Wrong here)
  other_number : {here there : Position} {h : Head} {n : ℕ} → head_from here ≡ Ok (h, there) → whole h ≡ Some n → (n == 1) ≡ false → VersionFault here (fault_here kind.Version here)

-- ---- reading it

-- the whole number that stands here, if it is 1
abbrev pub version_behind : Option ℕ → Position → Position → Read ℕ
version_behind (Some n) here there = if n == 1 then Ok (n, there) else Err (fault_here kind.Version here)
version_behind None here there = Err (fault_here kind.Wrong here)

-- the version that must stand here
unfoldable pub version_from : Position → Read ℕ
version_from here = head_from here >>= λ h. version_behind (whole h.0) here h.1
