-- What is put into a store one after another, and where that may stop.
use Rattle.std.specs.Prelude.{◌≡◌, ℕ, Bool, false, List, [], ◌∷◌, map, take, Option, Some, None}
use Rattle.std.specs.List.{IsDistinct}
use Rattle.std.specs.Option.{option_map}
use Rattle.std.specs.Str.{bytes_eq}
use Rattle.std.specs.FinMap as finite
use Rattle.channel_store.specs.Store.{Files}

-- a file that is put: its name, and its bytes
pub record Put : Type 0 where
  pub name : List ℕ
  pub bytes : List ℕ

-- the files with some puts in place, the first put first
abbrev pub files_with : List Put → Files → Files
files_with [] files = files
files_with (p ∷ ps) files = files_with ps (finite.insert files p.name p.bytes)

-- the same of files that may not be told
abbrev pub with_puts : List Put → Option Files → Option Files
with_puts puts = option_map (files_with puts)

-- some puts were made, from the first one on, and nothing else was changed
pub record StopsWithin (puts : List Put) (old new : Option Files) : Type 0 where
  pub done : ℕ
  pub files : new ≡ with_puts (take done puts) old

-- a file is there and has these bytes
abbrev pub is_these : Option (List ℕ) → List ℕ → Bool
is_these (Some there) bytes = bytes_eq there bytes
is_these None bytes = false

-- the file of a put stands with these bytes already
abbrev pub stands_in : Files → Put → Bool
stands_in files put = is_these (finite.get files put.name) put.bytes

-- no two puts have one name
abbrev pub AreApart : List Put → Type 0
AreApart puts = IsDistinct bytes_eq (map (λ p. p.name) puts)
