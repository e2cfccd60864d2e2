use Rattle.std.proofs.Common.{length, ap, ◌∙◌}
use Rattle.flight_journal.specs.Journal.{after}
use Rattle.flight_rows.specs.Sight.{Sight}
use Rattle.flight_rows.proofs.StateLemmas.{room_for_all}
use Rattle.flight_rows.proofs.EntryLemmas.{opens}
use Rattle.flight_rows.proofs.table.Flights.enter.Goals as goal

pub invariant_of-self-2 : goal.invariant_of-self-2
invariant_of-self-2 g c =
    let space = c.in_ok-reserve.ensures in
    rw (c.write.ensures.entries, c.write.ensures.room, c.reserve.ensures.entries)
    (opens _ _ _ _ _ _ _ _ _ _ _ _ _ _ _ _ c.self.invariant.0 c.self.invariant.1 (room_for_all _ _ c.self.inside.owed 2 _ _ (ap length c.reserve.ensures.entries) c.saturating_add.ensures space.ok space.bound))

pub returns-clause-number : goal.returns-clause-number
returns-clause-number g c = c.self.invariant.0.holds.opened_so ∙ ap (λ (s : Sight). length (after s.journal).live) c.self.view_is
