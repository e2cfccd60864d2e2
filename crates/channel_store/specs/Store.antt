-- The files of a store, and what its calls do to them, where the store tells them.
use Rattle.std.specs.Prelude.{◌≡◌, ◌⊎◌, ℕ, List, length, nat_lt, if◌then◌else◌, Option, Some, None}
use Rattle.std.specs.Option.{option_map}
use Rattle.std.specs.Ordering.{nat_cmp}
use Rattle.std.specs.Cmp.Lexicographic.{slice_cmp}
use Rattle.std.specs.FinMap as finite
use Rattle.std.specs.Coded.{Coded, coded_ℕ, coded_list}
use Rattle.channel_store.specs.declared.store.Got.{Got}
use Rattle.channel_store.specs.declared.store.Got.TheVariants as got

-- files by their names: a finite map from a name to the bytes of the file
abbrev pub Files : Type 0
Files = finite.FinMap (slice_cmp nat_cmp) (List ℕ)

-- files are kept as the list of their names and bytes
abbrev pub files_code : Coded Files
files_code = finite.code (coded_list coded_ℕ) (coded_list coded_ℕ)

-- what a get finds: no file, all the bytes of one, or one with more bytes than were asked for
pub data Found : Type 0 where
  absent : Found
  whole : List ℕ → Found
  long : Found

-- what a get gave
abbrev pub found : Got → Found
found got.Absent = absent
found (got.Bytes bytes) = whole bytes.items
found got.Long = long

-- what is to be found of a file, or of none, within a limit
abbrev pub found_within : ℕ → Option (List ℕ) → Found
found_within limit None = absent
found_within limit (Some bytes) = if nat_lt limit (length bytes) then long else whole bytes

-- what is to be found under a name within a limit
abbrev pub found_in : Files → List ℕ → ℕ → Found
found_in files name limit = found_within limit (finite.get files name)

-- the files that are told, with these bytes under a name
abbrev pub with_file : List ℕ → List ℕ → Option Files → Option Files
with_file name bytes = option_map (λ files. finite.insert files name bytes)

-- the files that are told, with none under a name
abbrev pub without_file : List ℕ → Option Files → Option Files
without_file name = option_map (λ files. finite.remove files name)

-- the files are these or those
abbrev pub IsEither : Option Files → Option Files → Option Files → Type 0
IsEither these those files = (files ≡ these) ⊎ (files ≡ those)
