-- Where the packages of a request come from.
use Rattle.std.specs.Prelude.{ℕ, ◌<◌, List, [], Option}
use Rattle.std.specs.List.{slice_index_or}
use Rattle.closure_plan.specs.declared.sources.Place.{Place}
use Rattle.closure_request.specs.Request.{Asking}
use Rattle.closure_request.specs.Slots.{Slot}

-- a request, and what holds the index of each slot that is pinned
pub record Sources (P : Type 0) : Type 0 where
  pub request : Asking
  pub pins : List (Option P)

-- the slot of the numbers of a channel and a subdir
abbrev pub slot_of : Asking → Place → Slot
slot_of r p = record {
  channel = slice_index_or r.channels p.channel (record { name = []; base = [] });
  rank = p.channel;
  subdir = slice_index_or r.subdirs p.subdir [];
}

-- the numbers of a place are those of a channel and of a subdir, of so many
abbrev pub IsWithin : ℕ → ℕ → Place → Type 0
IsWithin channels subdirs p = (p.channel < channels) × (p.subdir < subdirs)
