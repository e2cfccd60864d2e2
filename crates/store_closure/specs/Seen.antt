-- What contracts see of a file that gave nothing.
use Rattle.std.specs.Prelude.{ℕ, List, Option, Some, None, Result, Ok, Err}
use Rattle.channel_store.specs.Store.{Found, absent, whole, long}
use Rattle.store_closure.specs.declared.stop.FileWhy.{FileWhy}
use Rattle.store_closure.specs.declared.stop.FileWhy.TheVariants as why
use Rattle.store_closure.specs.declared.stop.BadFile.{BadFile}
use Rattle.store_closure.specs.declared.files.Refused.{Refused}
use Rattle.store_closure.specs.declared.files.Refused.TheVariants as refused

-- why a file is bad; it is none where the store failed or memory ran out
abbrev pub why_of : Refused → Option FileWhy
why_of (refused.Bad why) = Some why
why_of refused.Failed = None
why_of refused.Memory = None

-- the bad file of a name, where the file is bad
abbrev pub bad_by : List ℕ → Refused → Option BadFile
bad_by name (refused.Bad why) = Some (record { name = name; why = why })
bad_by name refused.Failed = None
bad_by name refused.Memory = None

-- the bytes that are found, or why there are none
abbrev pub bytes_found : Found → Result (List ℕ) FileWhy
bytes_found absent = Err why.Absent
bytes_found long = Err why.Long
bytes_found (whole bytes) = Ok bytes
