use Rattle.std.proofs.Common.{Some, None, sym, ap, ◌∙◌}
use Rattle.shard_cache.specs.Recency.{is_listed}
use Rattle.flight_journal.specs.Journal.{after}
use Rattle.flight_rows.specs.Sight.{Sight}
use Rattle.flight_rows.proofs.HitLemmas.{kept_row}
use Rattle.flight_rows.proofs.table.Flights.is_kept.Goals as goal

pub returns-in-Some : goal.returns-in-Some
returns-in-Some g c = kept_row _ _ (after c.self.inside.journal.entries) c.self.inside.rows c.args.f (Some c.in-Some.row.now) c.self.invariant.0.holds.rows_fit (sym c.in-Some.ensures.value) ∙ ap (λ (s : Sight). is_listed c.args.f (after s.journal).kept) c.self.view_is

pub returns-in-None : goal.returns-in-None
returns-in-None g c = kept_row _ _ (after c.self.inside.journal.entries) c.self.inside.rows c.args.f None c.self.invariant.0.holds.rows_fit (sym c.in-None.ensures.value) ∙ ap (λ (s : Sight). is_listed c.args.f (after s.journal).kept) c.self.view_is
