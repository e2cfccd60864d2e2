-- What a cursor's calls give, as functions of the position.
use Rattle.std.specs.Prelude.{◌≡◌, ℕ, zero, suc, ◌+◌, Bool, true, false, nat_lt, List, length, take, Result, Ok, Err, if◌then◌else◌}
use Rattle.gateway_words.specs.Places.{Position, behind, end_of}
use Rattle.gateway_words.specs.Reading.{◌>>=◌}
use Rattle.mp_codec.specs.declared.fault.FormatFault.{FormatFault}
use Rattle.mp_codec.specs.declared.fault.FaultKind.{FaultKind}
use Rattle.mp_codec.specs.declared.fault.FaultKind.TheVariants.{Short}
use Rattle.mp_codec.specs.declared.head.Head.{Head}
use Rattle.mp_codec.specs.Format.{head_at, payload_len, part_count}
use Rattle.mp_codec.specs.Spelling.{short}

-- what a call on a cursor returned, seen by view, and where it left the cursor, is the reading; after a fault it stands as before
abbrev pub Steps : {X Y : Type 0} → (X → Y) → Position → Position → Result X FormatFault → Result (Y × Position) FormatFault → Type 0
Steps view old new (Ok x) reading = reading ≡ Ok (view x, new)
Steps view old new (Err f) reading = (reading ≡ Err f) × (new ≡ old)

-- the same, where nothing is said of the cursor after a fault
abbrev pub Advances : {X Y : Type 0} → (X → Y) → Position → Result X FormatFault → Result (Y × Position) FormatFault → Type 0
Advances view new (Ok x) reading = reading ≡ Ok (view x, new)
Advances view new (Err f) reading = reading ≡ Err f

-- the same for a call that gives nothing but the new position
abbrev pub Passes : {X : Type 0} → Position → Position → Result X FormatFault → Result Position FormatFault → Type 0
Passes old new (Ok x) reading = reading ≡ Ok new
Passes old new (Err f) reading = (reading ≡ Err f) × (new ≡ old)

-- a fault of this kind in a head that begins here
abbrev pub head_fault : FaultKind → Position → FormatFault
head_fault Short here = record { at = end_of here; kind = Short }
head_fault kind here = record { at = here.at; kind = kind }

-- a head that was found here, with the position behind it
abbrev pub placed_head : Result (Head × ℕ) FaultKind → Position → Result (Head × Position) FormatFault
placed_head (Ok x) here = Ok (x.0, behind x.1 here)
placed_head (Err kind) here = Err (head_fault kind here)

-- the head here, and the position behind it
unfoldable pub head_from : Position → Result (Head × Position) FormatFault
head_from here = placed_head (head_at here.left) here

-- so many bytes, and the position behind them
unfoldable pub bytes_from : ℕ → Position → Result (List ℕ × Position) FormatFault
bytes_from n here = if nat_lt (length here.left) n then Err (short here) else Ok (take n here.left, behind n here)

-- the head and the payload of the value that stands here, and the position behind them
unfoldable pub node_from : Position → Result (Head × List ℕ × Position) FormatFault
node_from here = do
  head ← head_from here
  payload ← bytes_from (payload_len head.0) head.1
  Ok (head.0, payload.0, payload.1)

-- what a call that passes over a node returned, and where it left the cursor: the number of values in it
abbrev pub NodePasses : Result ℕ FormatFault → Position → Result (Head × List ℕ × Position) FormatFault → Type 0
NodePasses (Ok parts) new (Ok node) = (parts ≡ part_count node.0) × (new ≡ node.2)
NodePasses (Ok parts) new (Err f) = ⊥
NodePasses (Err f) new reading = reading ≡ Err f

-- a call that passes over a node without values in it, or stands as before
abbrev pub PassesLeaf : Bool → Position → Position → Result (Head × List ℕ × Position) FormatFault → Type 0
PassesLeaf true old new node = NodePasses (Ok 0) new node
PassesLeaf false old new node = new ≡ old

-- the position behind so many values, met in at most fuel steps
unfoldable pub pass : ℕ → ℕ → Position → Result Position FormatFault
pass fuel zero here = Ok here
pass zero (suc owed) here = Err (short here)
pass (suc fuel) (suc owed) here = do
  node ← node_from here
  pass fuel (part_count node.0 + owed) node.2

-- the position behind so many values
abbrev pub values_from : ℕ → Position → Result Position FormatFault
values_from owed here = pass (suc (length here.left)) owed here
