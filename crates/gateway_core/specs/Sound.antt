-- When a world is sound, and which requests it is of.
use Rattle.std.specs.Prelude.{◌≡◌, ◌<◌, ℕ, true, List, [], ◌∷◌, length, slice_get, Some}
use Rattle.std.specs.List.{slice_index_or}
use Rattle.link_io.specs.Conn.{LinkFacts}
use Rattle.link_io.specs.Origin.{Origin}
use Rattle.closure_request.specs.Request.{Asking, Site}
use Rattle.flight_journal.specs.Journal.{after}
use Rattle.flight_journal.specs.State.{is_open}
use Rattle.flight_rows.specs.Sight.{Sight}
use Rattle.flight_table.specs.Doors.{Gate, TellsDoor, whole}
use Rattle.flight_table.specs.Facts.{Facts}
use Rattle.flight_table.specs.Tells.{Tells}
use Rattle.query_needs.specs.Targets.{IsFormedSlot}
use Rattle.gateway_core.specs.declared.world.Place.{Place}
use Rattle.gateway_core.specs.declared.world.World.{World}
use Rattle.gateway_core.specs.Places.{IsFor, IsWell, facts_at}

-- the channels of the first request; none where there is no request
abbrev pub first_channels : List Asking → List Site
first_channels [] = []
first_channels (r ∷ rs) = r.channels

-- its subdirs
abbrev pub first_subdirs : List Asking → List (List ℕ)
first_subdirs [] = []
first_subdirs (r ∷ rs) = r.subdirs

-- no channel
abbrev pub no_site : Site
no_site = record { name = []; base = [] }

-- each channel with each subdir is a slot that is well formed
abbrev pub AreFormed : List Site → List (List ℕ) → Type 0
AreFormed channels subdirs =
    (c s : ℕ) → c < length channels → s < length subdirs → IsFormedSlot (record { channel = slice_index_or channels c no_site; rank = c; subdir = slice_index_or subdirs s [] })

-- the one door of a table tells all that happened
pub record IsWholeDoor (s : Sight) (d : Gate) : Type 0 where
  pub weight : d.weight ≡ whole
  pub told : TellsDoor s d

module _ {N D L : Type 0} where
  -- the place at which a query runs
  pub record RunsAt (ps : List (Place N D L)) (q : ℕ) : Type 0 where
    pub place : ℕ
    pub pass : Facts
    pub there : facts_at ps place ≡ Some pass
    pub query : pass.query ≡ q

  -- the places are those of these requests, in order, and the channels and subdirs are those of the first
  pub record Fits (rs : List Asking) (w : World N D L) : Type 0 where
    pub many : length w.places.items ≡ length rs
    pub places : (i : ℕ) (p : Place N D L) → slice_get w.places.items i ≡ Some p → (r : Asking) × (slice_get rs i ≡ Some r) × IsFor r p
    pub channels : w.channels.items ≡ first_channels rs
    pub subdirs : w.subdirs.items ≡ first_subdirs rs

  module _ (facts : L → LinkFacts) (from : L → Origin → Type 0) where
    -- what each pass says is so of the table, no two passes are of one query, each open query has a pass at a place, and each
    -- place is well
    pub record AreSound (s : Sight) (ps : List (Place N D L)) : Type 0 where
      pub told : (i : ℕ) (f : Facts) → facts_at ps i ≡ Some f → Tells s f
      pub apart : (i j : ℕ) (f g : Facts) → facts_at ps i ≡ Some f → facts_at ps j ≡ Some g → f.query ≡ g.query → i ≡ j
      pub opens : (q : ℕ) → is_open (after s.journal) q ≡ true → RunsAt ps q
      pub well : (i : ℕ) (p : Place N D L) → slice_get ps i ≡ Some p → IsWell facts from p

    -- the places are sound, the door is the only one, and what a Refresh names is well formed
    pub record IsSound (w : World N D L) : Type 0 where
      pub places : AreSound w.table w.places.items
      pub door : IsWholeDoor w.table w.door
      pub formed : AreFormed w.channels.items w.subdirs.items
