-- The slots of a request: the places in which its packages are looked for.
use Rattle.std.specs.Prelude.{ℕ, nat_lt, Bool, List, [], map, length}
use Rattle.std.specs.List.{flat_map, range_with_len, enumerate_from, slice_index_or}
use Rattle.closure_request.specs.Request.{Site, Asking}

-- a slot: a channel, the place of the channel in the request, and a subdir
pub record Slot : Type 0 where
  pub channel : Site
  pub rank : ℕ
  pub subdir : List ℕ

-- the slots of the channel of a place, one for each subdir
abbrev pub slots_of : List (List ℕ) → ℕ × Site → List Slot
slots_of subdirs c = map (λ subdir. record { channel = c.1; rank = c.0; subdir = subdir }) subdirs

-- the slots of a request: channels times subdirs, channel first
abbrev pub slots : Asking → List Slot
slots r = flat_map (slots_of r.subdirs) (enumerate_from 0 r.channels)

-- the numbers of the slots; a slot's number is its place
abbrev pub numbers : Asking → List ℕ
numbers r = range_with_len 0 (length (slots r))

-- no slot
abbrev pub no_slot : Slot
no_slot = record { channel = record { name = []; base = [] }; rank = 0; subdir = [] }

-- the slot of a number
abbrev pub slot_at : Asking → ℕ → Slot
slot_at r s = slice_index_or (slots r) s no_slot

-- whether the channel of a slot stands before that of another
abbrev pub is_earlier : Asking → ℕ → ℕ → Bool
is_earlier r t s = nat_lt (slot_at r t).rank (slot_at r s).rank
