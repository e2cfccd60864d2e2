-- The window of a query beside its plan and its pass.
use Rattle.std.specs.Prelude.{◌≡◌, ◌+◌, ◌<◌, slice_index_or, ℕ, true, List, map, length}
use Rattle.link_io.specs.Target.{IsPlain}
use Rattle.link_io.specs.declared.target.Key.{Key}
use Rattle.link_io.specs.declared.target.Target.{Target}
use Rattle.fetch_flight.specs.declared.verdicts.Verdict.{Verdict}
use Rattle.closure_plan.specs.declared.need.Need.{Need}
use Rattle.closure_plan.specs.Plan.{Known, Planned, given_count}
use Rattle.flight_journal.specs.Count.{Among, IsOnce}
use Rattle.flight_table.specs.Facts.{Facts}
use Rattle.query_needs.specs.Takes.{IsNeeded, is_filled}
use Rattle.query_needs.specs.Targets.{key_at, target_of}
use Rattle.query_future.specs.declared.parts.Pair.{Pair}

-- the need of a pair
abbrev pub need_of : Pair → Need
need_of w = w.need

-- its flight
abbrev pub flight_of : Pair → ℕ
flight_of w = w.flight

-- the key of its target
abbrev pub sought_key : Pair → Key
sought_key w = w.target.key

-- a pair as a pass knows it: the flight, and the key of its target
abbrev pub as_pair : Pair → ℕ × Key
as_pair w = (w.flight, w.target.key)

-- an awaited flight in the same form
abbrev pub as_await : ℕ × Target → ℕ × Key
as_await a = (a.0, a.1.key)

-- w is the pair of this place
pub record IsAt (ws : List Pair) (c : ℕ) (w : Pair) : Type 0 where
  pub low : c < length ws
  pub is : w ≡ slice_index_or ws c w

-- a pair is of a need, and its target is the need's own
pub record IsOwn {L : Type 0} (k : Known (Verdict L) (Verdict L)) (w : Pair) : Type 0 where
  pub needed : IsNeeded k w.need
  pub target : w.target ≡ target_of k w.need
  pub plain : IsPlain w.target

-- the marked needs are those of the window, no two have one key, and the flights that the pass awaits are those of the window
pub record Paired {L : Type 0} (p : Planned (Verdict L) (Verdict L)) (f : Facts) (ws : List Pair) : Type 0 where
  pub marked : p.marked ≡ map need_of ws
  pub own : (w : Pair) → Among w ws → IsOwn p.known w
  pub keys : IsOnce (map sought_key ws)
  pub flights : IsOnce (map flight_of ws)
  pub awaits : map as_await f.awaits ≡ map as_pair ws

-- what was asked for are needs, and the pass has their keys, in order
pub record AskedBy {L : Type 0} (k : Known (Verdict L) (Verdict L)) (f : Facts) (asked : List Need) : Type 0 where
  pub needs_are : (m : Need) → Among m asked → IsNeeded k m
  pub keys : f.asks ≡ map (key_at k) asked

-- each need that is given was asked for; and each ask was given, is open, or was repeated
pub record CountedBy {L : Type 0} (k : Known (Verdict L) (Verdict L)) (asked : List Need) (open_or_again : ℕ) : Type 0 where
  pub given : (m : Need) → IsNeeded k m → is_filled k m ≡ true → Among m asked
  pub count : length asked ≡ open_or_again + given_count k
