-- What the steps of a section do. No public clause cites this module.
use Rattle.std.specs.Prelude.{◌≡◌, ◌≢◌, ◌⊎◌, ◌+◌, ◌<◌, ◌≤◌, ◌==◌, ◌||◌, ℕ, Bool, true, false, List, ◌++◌, length, Option, Some, None, if◌then◌else◌}
use Rattle.link_io.specs.Conn.{LinkFacts}
use Rattle.link_io.specs.Origin.{Origin}
use Rattle.link_io.specs.Parcel.{Packed}
use Rattle.link_io.specs.declared.target.Target.{Target}
use Rattle.http_reply.specs.Going.{IsGoing}
use Rattle.fetch_flight.specs.Advance.{bytes_moved}
use Rattle.fetch_flight.specs.Verdict.{IsLandedFrom, comes_from, key_of, number_of, size_of}
use Rattle.fetch_flight.specs.declared.verdicts.Verdict.{Verdict}
use Rattle.closure_plan.specs.declared.need.Need.{Need}
use Rattle.closure_plan.specs.Closure.{closure}
use Rattle.closure_plan.specs.Plan.{CanMark, IsReached, Planned, its_done, its_leaves, its_pins, without}
use Rattle.flight_journal.specs.Count.{Among}
use Rattle.flight_rows.specs.Rows.{Comes}
use Rattle.flight_rows.specs.Sight.{Sight}
use Rattle.flight_table.specs.Facts.{Facts, wreck_of}
use Rattle.flight_table.specs.Follows.{Removes}
use Rattle.query_needs.specs.Holders.{index_in, leaf_in}
use Rattle.query_needs.specs.Known.{IsKnown}
use Rattle.query_needs.specs.Takes.{IsForeign, IsGiven, IsNeeded, IsOwnWreck, is_filled}
use Rattle.query_needs.specs.Targets.{key_at, target_of}
use Rattle.query_future.specs.declared.parts.Did.{Did}
use Rattle.query_future.specs.declared.parts.Did.TheVariants as did
use Rattle.query_future.specs.declared.parts.Hand.{Hand}
use Rattle.query_future.specs.declared.parts.Hand.TheVariants as hand
use Rattle.query_future.specs.declared.parts.Work.{Work}
use Rattle.query_future.specs.declared.parts.Work.TheVariants as work
use Rattle.query_future.specs.declared.track.Track.{Track}
use Rattle.query_future.specs.Dues.{place_of}
use Rattle.query_future.specs.Stands.{Carries, KeepsRequest, Rests, Tracked, is_going}
use Rattle.query_future.specs.Steps.{is_final}

-- a track as contracts see it
abbrev pub seen : {N : Type 0} → Track N → Tracked
seen t = record { pass = t.pass; window = t.window.items; cursor = t.cursor; asked = t.asked.items; again = t.again }

-- a need may be asked for: it may be marked, and no marked need has its key
pub record IsNext {L : Type 0} (p : Planned (Verdict L) (Verdict L)) (m : Need) : Type 0 where
  pub can : CanMark index_in leaf_in p m
  pub apart : (x : Need) → Among x p.marked → key_at p.known x ≢ key_at p.known m

-- a value of a flight came to the pass, which awaits the flight no more
pub record Gets {L : Type 0} (facts : L → LinkFacts) (from : L → Origin → Type 0) (x : ℕ) (v : Verdict L) (f g : Facts) : Type 0 where
  pub target : Target
  pub removes : Removes (x, target) f.awaits g.awaits
  pub value : Comes key_of size_of (number_of facts) (comes_from from) f.base f.origin x target (size_of v) v
  pub asks : g.asks ≡ f.asks
  pub wrecks : g.wrecks ≡ f.wrecks ++ wreck_of x (size_of v)
  pub lost : g.lost ≡ f.lost
  pub losses : g.losses ≡ f.losses
  pub base : g.base ≡ f.base
  pub origin : g.origin ≡ f.origin

-- what taking in a value for a need made of a query's work
abbrev pub TakesIn : {L : Type 0} → (L → LinkFacts) → Need → Verdict L → Planned (Verdict L) (Verdict L) → Work L → Did → Type 0
TakesIn facts m v old (work.Going new) d =
    (IsGiven facts m v old new × (d ≡ did.Value)) ⊎ (IsForeign (target_of old.known m) v × (new ≡ record old { marked = without m old.marked }) × (d ≡ did.Again))
TakesIn facts m v old (work.Failing part n w) d =
    IsOwnWreck facts (target_of old.known m) v × (part ≡ old.known) × (w.value ≡ v) × (n ≡ m) × (d ≡ did.Ended)
TakesIn facts m v old (work.Answering a) d = ⊥
TakesIn facts m v old work.Memory d = d ≡ did.Ended

-- one more where a need is asked for again
abbrev pub again_of : Did → ℕ → ℕ
again_of d n = if place_of d == 2 then n + 1 else n

-- pass and cursor are as they were, and the window has at most one pair more
pub record SameBut (s t : Tracked) : Type 0 where
  pub pass : t.pass ≡ s.pass
  pub cursor : t.cursor ≡ s.cursor
  pub longer : length s.window ≤ length t.window
  pub few : length t.window ≤ length s.window + 1

-- the cursor is as it was, the window has at most one pair more, and the pass is open as it was, with what it has in hand
pub record SameTrack (s t : Tracked) : Type 0 where
  pub live : t.pass.live ≡ s.pass.live
  pub hand : t.pass.hand ≡ s.pass.hand
  pub cursor : t.cursor ≡ s.cursor
  pub longer : length s.window ≤ length t.window
  pub few : length t.window ≤ length s.window + 1

-- only a section that says so decides an ending
abbrev pub Sure : {L : Type 0} → Work L → Did → Type 0
Sure w d = is_final d ≡ false → is_going w ≡ true

-- ---- a step on the parcel in hand

-- what a parcel came to, for the table and for the query, or that there was no memory for it
abbrev pub Judging : {L : Type 0} → (L → LinkFacts) → (L → Origin → Type 0) → Packed L → Hand L → Did → Type 0
Judging facts from p hand.Empty d = ⊥
Judging facts from p (hand.Fresh r) d = ⊥
Judging facts from p (hand.Stepped r) d = ⊥
Judging facts from p (hand.Judged v u) d = (d ≡ did.Judged) × (v.value ≡ u.value) × IsLandedFrom facts from p v.value
Judging facts from p hand.Refused d = d ≡ did.Judged

-- the work behind a step: want of memory is an ending
abbrev pub AfterStep : {L : Type 0} → Work L → Did → Work L → Type 0
AfterStep w d r = ((d ≡ did.Ended) × (r ≡ work.Memory)) ⊎ ((d ≢ did.Ended) × (r ≡ w))

-- ---- endings

-- the ending is decided, or each need is given
abbrev pub Closes : {L : Type 0} → Work L → Type 0
Closes (work.Going p) = its_done index_in leaf_in p.known ≡ true
Closes (work.Failing part m v) = Unit {0}
Closes (work.Answering a) = Unit {0}
Closes work.Memory = Unit {0}

-- where no ending is decided, each need is given
abbrev pub IsWhole : {L : Type 0} → Work L → Type 0
IsWhole (work.Going p) = IsReached index_in leaf_in p.known × ((m : Need) → IsNeeded p.known m → is_filled p.known m ≡ true)
IsWhole (work.Failing part m v) = Unit {0}
IsWhole (work.Answering a) = Unit {0}
IsWhole work.Memory = Unit {0}

-- the ending that a work comes to
abbrev pub Ending : {L : Type 0} → Work L → Work L → Type 0
Ending (work.Going p) (work.Going q) = ⊥
Ending (work.Going p) (work.Failing part m v) = ⊥
Ending (work.Going p) (work.Answering a) =
    (a.known ≡ p.known) × (a.rows ≡ closure p.known.request (its_pins index_in leaf_in p.known) (its_leaves index_in leaf_in p.known))
Ending (work.Going p) work.Memory = Unit {0}
Ending (work.Failing part m v) w = w ≡ work.Failing part m v
Ending (work.Answering a) w = w ≡ work.Answering a
Ending work.Memory w = w ≡ work.Memory

-- one turn: what is so of a query stays so, the table goes on, the request is kept, and a query that is over has nothing in
-- hand and a decided ending
pub record Turned {L : Type 0} (facts : L → LinkFacts) (from : L → Origin → Type 0) (s t : Sight) (old new : Tracked) (was now : Work L) (h : Hand L) : Type 0 where
  pub rests : Rests facts from now h new
  pub carries : Carries s t old.pass new.pass
  pub request : KeepsRequest was now
  pub over : new.pass.live ≡ false → (h ≡ hand.Empty) × (is_going now ≡ false)

-- the cursor, or the first place where it stood at the end
abbrev pub Begun : ℕ → ℕ → ℕ → Type 0
Begun cursor len r = 0 < len → cursor ≤ len → r < len
