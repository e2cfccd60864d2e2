-- What the files of a store say, or why one of them is bad.
use Rattle.std.specs.Prelude.{ℕ, List, Result, Ok, Err, if◌then◌else◌}
use Rattle.std.specs.Str.{bytes_eq}
use Rattle.gateway_words.specs.Limits.{most_served_bytes}
use Rattle.mp_codec.specs.declared.fault.FormatFault.{FormatFault}
use Rattle.digest_gate.specs.Digest.{digest_of, text_of}
use Rattle.digest_gate.specs.declared.digest.Digest.{Digest}
use Rattle.channel_store.specs.Names.{index_name, shard_name}
use Rattle.channel_store.specs.Store.{Files, Found, absent, whole, long, found_in}
use Rattle.shard_file.specs.Rows.{Row}
use Rattle.shard_file.specs.Reading.{shard_of}
use Rattle.shard_index.specs.Index.{Contents}
use Rattle.shard_index.specs.Reading.{index_of}
use Rattle.store_closure.specs.declared.stop.FileWhy.{FileWhy}
use Rattle.store_closure.specs.declared.stop.FileWhy.TheVariants as why

-- what some bytes say, or the first fault that stands in them
abbrev pub formatted : {A : Type 0} → Result A FormatFault → Result A FileWhy
formatted (Ok x) = Ok x
formatted (Err fault) = Err (why.Format fault)

-- what is found says this as an index, or it is bad
abbrev pub index_found : Found → Result Contents FileWhy
index_found absent = Err why.Absent
index_found long = Err why.Long
index_found (whole bytes) = formatted (index_of bytes)

-- bytes have these rows as the shard of a digest, or they are bad
abbrev pub rows_checked : Digest → List ℕ → Result (List Row) FileWhy
rows_checked want bytes =
    if bytes_eq (digest_of bytes).0 want.0 then formatted (shard_of bytes) else Err (why.Digest want (digest_of bytes))

-- what is found has these rows as the shard of a digest, or it is bad
abbrev pub rows_found : Digest → Found → Result (List Row) FileWhy
rows_found want absent = Err why.Absent
rows_found want long = Err why.Long
rows_found want (whole bytes) = rows_checked want bytes

-- what the index of a place says
abbrev pub index_in : Files → List ℕ → Result Contents FileWhy
index_in told place = index_found (found_in told (index_name place) most_served_bytes)

-- the rows of the shard of a place and a digest
abbrev pub rows_in : Files → List ℕ → Digest → Result (List Row) FileWhy
rows_in told place digest = rows_found digest (found_in told (shard_name place (text_of digest)) most_served_bytes)
