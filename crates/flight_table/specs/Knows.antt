-- What a pass says of a journal.
use Rattle.std.specs.Prelude.{◌≡◌, ◌≢◌, ◌⊎◌, ℕ, ◌<◌, List, map}
use Rattle.link_io.specs.Target.{IsPlain}
use Rattle.link_io.specs.declared.target.Target.{Target}
use Rattle.flight_journal.specs.declared.entry.Entry.{Entry}
use Rattle.flight_journal.specs.declared.entry.Entry.TheVariants.{Began, Joined, Lost}
use Rattle.flight_journal.specs.State.{Flight, gone, nothing, IsFlight, WaitsIn, IsOwed, is_open}
use Rattle.flight_journal.specs.Journal.{after}
use Rattle.flight_journal.specs.Count.{Among, IsOnce, calls_of, losses_of, asks_from, wrecks_from}
use Rattle.flight_table.specs.Facts.{Facts}

-- the query began or joined the flight
abbrev pub EnteredFlight : List Entry → ℕ → ℕ → Type 0
EnteredFlight js q f = ((t : Target) × Among (Began q f t) js) ⊎ Among (Joined q f) js

-- another query lost the flight, which the query had begun or joined
pub record WasLost (js : List Entry) (q f : ℕ) : Type 0 where
  pub by : ℕ
  pub other : by ≢ q
  pub lost : Among (Lost by f) js
  pub entered : EnteredFlight js q f
  pub flight : Flight
  pub there : IsFlight (after js) f flight
  pub gone_now : flight.phase ≡ gone

-- the flight is awaited for this target: the query waits in it, is owed its value, or another query lost it
pub record IsAwait (js : List Entry) (q f : ℕ) (t : Target) : Type 0 where
  pub flight : Flight
  pub there : IsFlight (after js) f flight
  pub target : flight.target ≡ t
  pub plain : IsPlain t
  pub entered : EnteredFlight js q f
  pub stands : WaitsIn (after js) q f ⊎ (IsOwed (after js) q f ⊎ WasLost js q f)

-- all that a pass says of a journal is so
pub record Knows (js : List Entry) (p : Facts) : Type 0 where
  pub entered : 0 < p.calls
  pub calls : p.calls ≡ calls_of p.query js
  pub live : p.live ≡ is_open (after js) p.query
  pub asks : p.asks ≡ asks_from p.query nothing js
  pub losses : p.losses ≡ losses_of p.query js
  pub wrecks : p.wrecks ≡ wrecks_from p.query nothing js
  pub lost : (f : ℕ) → Among f p.lost → WasLost js p.query f
  pub lost_once : IsOnce p.lost
  pub lost_apart : (f : ℕ) (t : Target) → Among (f, t) p.awaits → ¬ Among f p.lost
  pub awaits_once : IsOnce (map (λ a. a.0) p.awaits)
  pub awaits : (f : ℕ) (t : Target) → Among (f, t) p.awaits → IsAwait js p.query f t
  pub all_awaits : (f : ℕ) → WaitsIn (after js) p.query f ⊎ IsOwed (after js) p.query f → (t : Target) × Among (f, t) p.awaits
