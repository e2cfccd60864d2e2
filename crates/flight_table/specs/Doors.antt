-- What a door says. It is plain data that contracts alone see.
use Rattle.std.specs.Prelude.{◌≡◌, ℕ, ◌+◌, ◌-◌, ◌^◌, Bool, true, false, List, [], ◌∷◌}
use Rattle.link_io.specs.Origin.{Origin}
use Rattle.link_io.specs.declared.target.Target.{Target}
use Rattle.flight_journal.specs.declared.entry.Entry.{Entry}
use Rattle.flight_journal.specs.declared.entry.Entry.TheVariants.{Opened, Cancelled, Refreshed}
use Rattle.flight_journal.specs.Count.{one_if}
use Rattle.flight_rows.specs.Sight.{Sight}

-- what a door says: its share of the right to open queries; how many queries it opened, how many it cancelled and how many
-- indexes it gave up; and the table's budget, the dialer's list at the start, and where connections are from
pub record Gate : Type 0 where
  pub weight : ℕ
  pub opened : ℕ
  pub cancelled : ℕ
  pub refreshed : ℕ
  pub keep : ℕ
  pub start : List Target
  pub origin : Origin

-- the weight of all doors of a table together
abbrev pub whole : ℕ
whole = 2 ^ 32

-- the door that a table begins with
abbrev pub first_door : ℕ → List Target → Origin → Gate
first_door keep start origin =
    record { weight = whole; opened = 0; cancelled = 0; refreshed = 0; keep = keep; start = start; origin = origin }

-- a door from which another one was split off
abbrev pub lighter_door : Gate → Gate
lighter_door d = record d { weight = d.weight - 1 }

-- the door that was split off: of weight 1, without numbers
abbrev pub split_off : Gate → Gate
split_off d = record d { weight = 1; opened = 0; cancelled = 0; refreshed = 0 }

-- a door with the share and the numbers of another one
abbrev pub joined_door : Gate → Gate → Gate
joined_door d e =
    record d { weight = d.weight + e.weight; opened = d.opened + e.opened; cancelled = d.cancelled + e.cancelled; refreshed = d.refreshed + e.refreshed }

-- a door that opened one query more
abbrev pub opening_door : Gate → Gate
opening_door d = record d { opened = d.opened + 1 }

-- a door that cancelled one query more
abbrev pub cancelling_door : Gate → Gate
cancelling_door d = record d { cancelled = d.cancelled + 1 }

-- a door that gave up one index more, where one was kept
abbrev pub refreshing_door : Bool → Gate → Gate
refreshing_door given_up d = record d { refreshed = d.refreshed + one_if given_up }

-- ---- what a journal says of all doors together

-- the entry opens a query
abbrev pub opens : Entry → Bool
opens (Opened q) = true
opens _ = false

-- the entry cancels a query
abbrev pub cancels : Entry → Bool
cancels (Cancelled q) = true
cancels _ = false

-- the entry gives up a kept index
abbrev pub refreshes : Entry → Bool
refreshes (Refreshed f) = true
refreshes _ = false

-- how many entries are such
abbrev pub count : (Entry → Bool) → List Entry → ℕ
count such [] = 0
count such (e ∷ es) = one_if (such e) + count such es

-- what a door says of a table is so: the table's budget, start and origin, and where it is whole all three numbers
pub record TellsDoor (t : Sight) (d : Gate) : Type 0 where
  pub keep : d.keep ≡ t.keep
  pub start : d.start ≡ t.start
  pub origin : d.origin ≡ t.origin
  pub opened : d.weight ≡ whole → d.opened ≡ count opens t.journal
  pub cancelled : d.weight ≡ whole → d.cancelled ≡ count cancels t.journal
  pub refreshed : d.weight ≡ whole → d.refreshed ≡ count refreshes t.journal
