-- Where the files of the slots of a request stand in a store (docs/FORMATS.md, "Places and store names").
use Rattle.std.specs.Prelude.{ℕ, List, ◌∷◌, ◌++◌, map}
use Rattle.std.specs.List.{flat_map}
use Rattle.gateway_words.specs.Ascii.{slash}
use Rattle.closure_request.specs.Request.{Asking}
use Rattle.closure_request.specs.Slots.{Slot, slots, slot_at}

-- the place of a subdir of a channel
abbrev pub place : List ℕ → List ℕ → List ℕ
place channel subdir = channel ++ slash ∷ subdir

-- the place of a slot
abbrev pub place_of : Slot → List ℕ
place_of x = place x.channel.name x.subdir

-- the places of the slots of a request
abbrev pub slot_places : Asking → List (List ℕ)
slot_places r = map place_of (slots r)

-- the place of the slot of a number
abbrev pub place_at : Asking → ℕ → List ℕ
place_at r s = place_of (slot_at r s)

-- the places of the subdirs of channels, channel first
abbrev pub places_of : List (List ℕ) → List (List ℕ) → List (List ℕ)
places_of channels subdirs = flat_map (λ channel. map (place channel) subdirs) channels
