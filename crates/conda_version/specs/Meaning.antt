-- What a `Version`, and a text that is cut into parts, stand for.
use Rattle.std.specs.Prelude.{ℕ, List, [], ◌∷◌, Result, Ok, Err}
use Rattle.byte_text.specs.Text.{text_of}
use Rattle.conda_version.specs.Version.{Run, number, Value, lists}
use Rattle.conda_version.specs.Grammar.{Parts}
use Rattle.conda_version.specs.declared.fault.VersionFault.{VersionFault}
use Rattle.conda_version.specs.declared.parts.Cut.{Cut}
use Rattle.conda_version.specs.declared.version.Version.{Version}

-- the components of a part, and none of an empty one
abbrev pub part_lists : List ℕ → List (List Run)
part_lists [] = []
part_lists (b ∷ rest) = lists (b ∷ rest)

-- the lists of components that a version stands for
unfoldable pub meaning : Version → Value
meaning v = record { release = (number v.epoch ∷ []) ∷ lists v.main.now; local = part_lists v.local.now }

-- what was read, with the version as its lists
abbrev pub seen : Result Version VersionFault → Result Value VersionFault
seen (Ok v) = Ok (meaning v)
seen (Err e) = Err e

-- the parts that a text was cut into
abbrev pub parts_in : Cut → Parts
parts_in c = record { epoch = text_of c.epoch; main = c.main.now; local = text_of c.local }
