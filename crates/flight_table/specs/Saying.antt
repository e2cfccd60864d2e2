-- What a call makes of a line. No public clause cites this module.
use Rattle.std.specs.Option.{is_some}
use Rattle.std.specs.Prelude.{ℕ, Bool, true, false, not, [], ◌∷◌, length, slice_get, Option, Some, None}
use Rattle.link_io.specs.declared.target.Key.TheVariants as key
use Rattle.link_io.specs.declared.target.Target.{Target}
use Rattle.flight_journal.specs.State.{Flight, State}
use Rattle.flight_journal.specs.Journal.{after}
use Rattle.flight_journal.specs.Count.{only_if}
use Rattle.flight_rows.specs.declared.asking.Asked.{Asked}
use Rattle.flight_rows.specs.declared.asking.Asked.TheVariants as asked
use Rattle.flight_rows.specs.declared.table.Drive.{Drive}
use Rattle.flight_rows.specs.declared.table.Drive.TheVariants as drive
use Rattle.flight_rows.specs.Sight.{Sight}
use Rattle.flight_table.specs.Facts.{Facts, new_pass, hit_pass, awaiting_pass, holding_pass, freed_pass, taken_pass, missing_pass, landed_pass, lost_pass, left_pass, awaits_but}
use Rattle.flight_table.specs.Doors.{Gate, first_door, lighter_door, opening_door, cancelling_door, refreshing_door}
use Rattle.flight_table.specs.Lines.{Said, of_pass, of_door}
use Rattle.flight_table.specs.declared.saying.Fresh.{Fresh}
use Rattle.flight_table.specs.declared.saying.Fresh.TheVariants as fresh
use Rattle.flight_table.specs.declared.saying.Change.{Change}
use Rattle.flight_table.specs.declared.saying.Change.TheVariants as change
use Rattle.flight_table.specs.declared.saying.Mark.{Mark}
use Rattle.flight_table.specs.declared.saying.Mark.TheVariants as mark

-- the line of a new token
abbrev pub fresh_line : Fresh → Sight → Said
fresh_line (fresh.Pass query) t = of_pass (new_pass query (length t.start) t.origin)
fresh_line fresh.Door t = of_door (first_door t.keep t.start t.origin)

-- the target of a flight
abbrev pub target_of : Option Flight → Target
target_of None = record { key = key.Index []; url = [] }
target_of (Some x) = x.target

-- the target of the flight of a number
abbrev pub target_at : State → ℕ → Target
target_at s f = target_of (slice_get s.flights f)

-- what a pass says behind a call that left the table so
abbrev pub said_by : Change → Sight → Facts → Facts
said_by (change.Hits f) t p = hit_pass (target_at (after t.journal) f).key p
said_by (change.Awaits f) t p = awaiting_pass f (target_at (after t.journal) f) p
said_by (change.Holds f) t p = holding_pass f p
said_by change.Frees t p = freed_pass p
said_by (change.Takes f wreck) t p = taken_pass (only_if wreck (f ∷ [])) (awaits_but f p.awaits) p
said_by (change.Misses f) t p = missing_pass f p
said_by (change.Lands f size) t p = landed_pass f size (awaits_but f p.awaits) p
said_by (change.Loses f) t p = lost_pass (awaits_but f p.awaits) p
said_by change.Leaves t p = left_pass p

-- what a door says behind a call
abbrev pub marked_by : Mark → Gate → Gate
marked_by mark.Lightens d = lighter_door d
marked_by mark.Opens d = opening_door d
marked_by mark.Cancels d = cancelling_door d
marked_by (mark.Refreshes given_up) d = refreshing_door given_up d

-- whether a call writes an entry of the query
abbrev pub is_entry : Change → Bool
is_entry (change.Holds f) = false
is_entry change.Frees = false
is_entry (change.Misses f) = false
is_entry _ = true

-- whether the query leaves by the call
abbrev pub leaves : Change → Bool
leaves change.Leaves = true
leaves _ = false

-- what an answer of `ask` means for the pass
abbrev pub asked_change : {V : Type 0} → Asked V → Change
asked_change (asked.Kept f v) = change.Hits f
asked_change (asked.Joined f) = change.Awaits f
asked_change (asked.Began f) = change.Awaits f

-- the flight that the query awaits from then on, if it does
abbrev pub entered_in : {V : Type 0} → Asked V → Option ℕ
entered_in (asked.Kept f v) = None
entered_in (asked.Joined f) = Some f
entered_in (asked.Began f) = Some f

-- what an answer of `take` means for the pass, by the size of a value
abbrev pub taken_change : {L V : Type 0} → (V → Option ℕ) → ℕ → Drive L V → Option Change
taken_change size f (drive.Parcel p) = Some (change.Holds f)
taken_change size f drive.Busy = None
taken_change size f (drive.Ended v) = Some (change.Takes f (not (is_some (size v.value))))
taken_change size f drive.Again = Some (change.Misses f)
taken_change size f drive.Memory = None
