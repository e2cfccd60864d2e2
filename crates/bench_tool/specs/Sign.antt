-- The signs that are printed between two versions.
use Rattle.std.specs.Prelude.{ℕ, List, Result, Ok, Err}
use Rattle.std.specs.declared.cmp.Ordering.TheVariants.{Less, Equal, Greater}
use Rattle.std.specs.declared.cmp.Ordering.{Ordering}
use Rattle.gateway_words.specs.Ascii.{less_than_sign, equals_sign, greater_than_sign, question_mark}
use Rattle.conda_version.specs.declared.fault.VersionFault.{VersionFault}
use Rattle.conda_version.specs.Version.{Value}
use Rattle.conda_version.specs.Grammar.{version_of}
use Rattle.conda_version.specs.Order.{version_cmp}

-- the sign of an order
abbrev pub sign_of : Ordering → ℕ
sign_of Less = less_than_sign
sign_of Equal = equals_sign
sign_of Greater = greater_than_sign

-- the sign between two readings, `?` where one of them is a fault
abbrev pub sign_of_readings : Result Value VersionFault → Result Value VersionFault → ℕ
sign_of_readings (Ok v) (Ok w) = sign_of (version_cmp v w)
sign_of_readings (Ok v) (Err f) = question_mark
sign_of_readings (Err f) r = question_mark

-- the sign between two texts, `?` where one of them is no version
abbrev pub sign_of_texts : List ℕ → List ℕ → ℕ
sign_of_texts left right = sign_of_readings (version_of left) (version_of right)
