use Rattle.std.proofs.Common.{◌≡◌, ◌++◌, List, ℕ, length}
use Rattle.link_io.specs.contracts.target.KeyOrd as key_order
use Rattle.flight_journal.specs.Journal.{after, AreAwaited}
use Rattle.flight_rows.specs.Rows.{Keeps, IsAimed, Comes, hands_of}
use Rattle.flight_rows.specs.Sight.{hand_in}
use Rattle.flight_rows.specs.Serves.{evictions}
use Rattle.flight_rows.proofs.table.Flights.land_kept.Given as goal

abbrev pub invariant-loop-self : goal.invariant-loop-self
invariant-loop-self g l = record {
  keeps : Keeps (IsAimed g.D.Link.Conn.facts g.D.Link.Conn.from (length (g.D.Dial.dialed l.self-inside.start.value)) (g.D.Dial.origin l.self-inside.dial)) (Comes g.V.Landed.key g.V.Landed.size g.V.Landed.number g.V.Landed.from (length (g.D.Dial.dialed l.self-inside.start.value)) (g.D.Dial.origin l.self-inside.dial)) key_order.TheImpl.ghosts.cmp l.self-inside.recent.budget (g.D.Dial.dialed l.self-inside.start.value) (g.D.Dial.dialed l.self-inside.dial) l.self-inside.journal.entries l.self-inside.journal.room l.self-inside.rows l.self-inside.keys l.self-inside.recent.order l.self-inside.recent.rows l.self-inside.opened l.self-inside.begun l.self-inside.owed;
  awaited : AreAwaited (after l.self-inside.journal.entries);
  gone : List ℕ;
  written : l.self-inside.journal.entries ≡ l.initial.self-inside.journal.entries ++ evictions gone;
  hands : (n : ℕ) → hand_in (hands_of l.self-inside.rows.entries) n ≡ hand_in (hands_of l.initial.self-inside.rows.entries) n;
  budget : l.self-inside.recent.budget ≡ l.initial.self-inside.recent.budget;
  start : l.self-inside.start ≡ l.initial.self-inside.start;
  dial : l.self-inside.dial ≡ l.initial.self-inside.dial;
}

abbrev pub decreases-loop-self : goal.decreases-loop-self
decreases-loop-self g l = length l.self-inside.recent.order
