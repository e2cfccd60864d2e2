-- The closure of a request over the files of a store: its needs are taken in one after another, in the order in which they
-- are asked for, and the first one whose file is bad ends it (docs/FORMATS.md, "Closures").
use Rattle.std.specs.Prelude.{◌≡◌, ℕ, zero, suc, true, List, [], ◌∷◌, ◌++◌, length, Option, Some, None, Result, Ok, Err}
use Rattle.std.specs.List.{slice_set, list_all}
use Rattle.gateway_words.specs.Reading.{◌>>=◌}
use Rattle.digest_gate.specs.declared.digest.Digest.{Digest}
use Rattle.channel_store.specs.Names.{index_name, shard_name}
use Rattle.channel_store.specs.Store.{Files}
use Rattle.digest_gate.specs.Digest.{text_of}
use Rattle.shard_file.specs.Rows.{Row}
use Rattle.shard_index.specs.Index.{Contents}
use Rattle.closure_request.specs.Request.{Asking}
use Rattle.closure_request.specs.Slots.{slots}
use Rattle.closure_plan.specs.Names.{Name}
use Rattle.closure_plan.specs.Start.{unpinned}
use Rattle.closure_plan.specs.Given.{Pins, LeafRows, wanted}
use Rattle.closure_plan.specs.Needs.{Wish, the_index, the_shard, is_given, needs, next_wish}
use Rattle.closure_plan.specs.Closure.{Found, closure}
use Rattle.store_closure.specs.declared.stop.FileWhy.{FileWhy}
use Rattle.store_closure.specs.declared.stop.BadFile.{BadFile}
use Rattle.store_closure.specs.Places.{place_at}
use Rattle.store_closure.specs.Files.{index_in, rows_in}

-- the indexes and the shards that were taken in
pub record Taken : Type 0 where
  pub pins : Pins
  pub leaves : List LeafRows

-- nothing was taken in
abbrev pub nothing : Asking → Taken
nothing r = record { pins = unpinned (length (slots r)); leaves = [] }

-- an index more
abbrev pub with_index : Taken → ℕ → Contents → Taken
with_index t s index = record { pins = slice_set t.pins s (Some index); leaves = t.leaves }

-- a shard more
abbrev pub with_rows : Taken → ℕ → Name → List Row → Taken
with_rows t s n rows = record { pins = t.pins; leaves = t.leaves ++ record { slot = s; name = n; rows = rows } ∷ [] }

-- what comes of a file, or the file with why it is bad
abbrev pub of_file : {A B : Type 0} → List ℕ → (A → B) → Result A FileWhy → Result B BadFile
of_file name f (Ok x) = Ok (f x)
of_file name f (Err why) = Err (record { name = name; why = why })

-- the shard of a name in a slot taken in, where one of this digest is needed
abbrev pub with_shard : Files → Asking → Taken → ℕ → Name → Option Digest → Result Taken BadFile
with_shard told r t s n None = Ok t
with_shard told r t s n (Some d) = of_file (shard_name (place_at r s) (text_of d)) (with_rows t s n) (rows_in told (place_at r s) d)

-- the file of a need taken in
abbrev pub with_need : Files → Asking → Taken → Wish → Result Taken BadFile
with_need told r t (the_index s) = of_file (index_name (place_at r s)) (with_index t s) (index_in told (place_at r s))
with_need told r t (the_shard s n) = with_shard told r t s n (wanted r t.pins s n)

-- the file of a need taken in, if there is a need
abbrev pub with_next : Files → Asking → Taken → Option Wish → Result Taken BadFile
with_next told r t None = Ok t
with_next told r t (Some w) = with_need told r t w

-- the file of the need that is asked for next taken in
abbrev pub step : Files → Asking → Taken → Result Taken BadFile
step told r t = with_next told r t (next_wish r t.pins t.leaves [])

-- what was taken in after so many needs, or the first file that is bad
abbrev pub after : Files → Asking → ℕ → Result Taken BadFile
after told r zero = Ok (nothing r)
after told r (suc count) = after told r count >>= step told r

-- a run over the files comes to this
pub record ComesTo (told : Files) (r : Asking) (end : Result Taken BadFile) : Type 0 where
  pub count : ℕ
  pub run : after told r count ≡ end

-- these are the rows of the answer: a run takes in the file of each need, and they are the closure over what was taken in
pub record IsAnswer (told : Files) (r : Asking) (rows : List Found) : Type 0 where
  pub taken : Taken
  pub run : ComesTo told r (Ok taken)
  pub whole : list_all (is_given taken.pins taken.leaves) (needs r taken.pins taken.leaves) ≡ true
  pub are : rows ≡ closure r taken.pins taken.leaves

-- there is no answer: a run comes to a file that is bad
abbrev pub StopsAt : Files → Asking → BadFile → Type 0
StopsAt told r bad = ComesTo told r (Err bad)
