use Rattle.std.proofs.Common.{sym, subst}
use Rattle.flight_journal.specs.Journal.{after, IsFreeKey}
use Rattle.flight_rows.specs.Sight.{Sight}
use Rattle.flight_rows.proofs.HitLemmas.{key_free}
use Rattle.flight_rows.proofs.table.Flights.find.Goals as goal

pub returns-in-None : goal.returns-in-None
returns-in-None g c = subst (λ (s : Sight). IsFreeKey (after s.journal) c.args.key.now) c.self.view_is (key_free _ (after c.self.inside.journal.entries) c.self.inside.keys c.args.key.now c.self.invariant.0.holds.keys_fit (sym c.in-None.ensures.value))
