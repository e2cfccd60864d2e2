-- What `repodata.json` says (docs/FORMATS.md, "repodata.json").
use Rattle.std.specs.Prelude.{ℕ, Bool, true, false, List, [], ◌∷◌, ◌++◌, Option, Some, None, Result, Ok, Err, if◌then◌else◌}
use Rattle.std.specs.Str.{is_utf8}
use Rattle.serde_json.specs.Data.{Data, Members, no_members, member}
use Rattle.serde_json.specs.Find.{get, as_object}
use Rattle.serde_json.specs.Read as json
use Rattle.gateway_words.specs.Reading.{◌>>=◌}
use Rattle.conda_name.specs.declared.name.NameRefusal.{NameRefusal}
use Rattle.conda_name.specs.Name.{name_of}
use Rattle.conda_record.specs.Record.{Fields}
use Rattle.conda_record.specs.Json.{fields_of_json}
use Rattle.shard_file.specs.Rows.{Row, packages_key, conda_key}
use Rattle.channel_indexer.specs.declared.fault.IndexFault.{IndexFault}
use Rattle.channel_indexer.specs.declared.fault.IndexFault.TheVariants as fault

-- the fault of an answer, which has none where memory ran out
abbrev pub fault_of : IndexFault → Option IndexFault
fault_of fault.Memory = None
fault_of fault.StoreFault = Some fault.StoreFault
fault_of fault.NoFile = Some fault.NoFile
fault_of fault.Json = Some fault.Json
fault_of (fault.Fields file) = Some (fault.Fields file)
fault_of (fault.TooLong what) = Some (fault.TooLong what)

-- what was found, or else the fault
abbrev pub or_fault : {X : Type 0} → IndexFault → Option X → Result X IndexFault
or_fault f (Some x) = Ok x
or_fault f None = Err f

-- the value that some bytes are as JSON
abbrev pub json_in : List ℕ → Result Data IndexFault
json_in bytes = or_fault fault.Json (if is_utf8 bytes then json.read bytes else None)

-- the members of a part, which is an object; a missing part has none
abbrev pub members_of : Option Data → Result Members IndexFault
members_of None = Ok no_members
members_of (Some d) = or_fault fault.Json (as_object d)

-- the row of a file and of its fields, whose name must be a package name
abbrev pub row_if_named : Bool → List ℕ → Fields → Result (List ℕ) NameRefusal → Result Row IndexFault
row_if_named conda file fields (Ok name) = Ok (record { file = file; conda = conda; fields = fields })
row_if_named conda file fields (Err e) = Err (fault.Fields file)

-- the row of a file and of the fields that its value says, if it says any
abbrev pub row_if_said : Bool → List ℕ → Option Fields → Result Row IndexFault
row_if_said conda file (Some fields) = row_if_named conda file fields (name_of fields.name)
row_if_said conda file None = Err (fault.Fields file)

-- the row of a file and of the value behind its name
abbrev pub row_of : Bool → List ℕ → Data → Result Row IndexFault
row_of conda file d = row_if_said conda file (fields_of_json d)

-- the rows of the members of a part, in their order, or the fault of the first that has one
abbrev pub rows_of : Bool → Members → Result (List Row) IndexFault
rows_of conda no_members = Ok []
rows_of conda (member file d ms) = row_of conda file d >>= λ r. rows_of conda ms >>= λ rs. Ok (r ∷ rs)

-- the rows of packages, and behind them those of packages.conda
abbrev pub rows_of_parts : Members → Members → Result (List Row) IndexFault
rows_of_parts packages conda = rows_of false packages >>= λ ps. rows_of true conda >>= λ cs. Ok (ps ++ cs)

-- the rows that a value says, which is an object with the two parts
abbrev pub rows_in : Data → Result (List Row) IndexFault
rows_in d =
    or_fault fault.Json (as_object d)
    >>= λ top. members_of (get packages_key d)
    >>= λ packages. members_of (get conda_key d)
    >>= λ conda. rows_of_parts packages conda

-- the rows that some bytes say as repodata.json, those of packages first, each part in the order of its file names
unfoldable pub rows_from : List ℕ → Result (List Row) IndexFault
rows_from bytes = json_in bytes >>= λ d. rows_in d
