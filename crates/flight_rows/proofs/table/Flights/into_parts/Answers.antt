use Rattle.std.proofs.Common.{subst}
use Rattle.flight_rows.specs.Sight.{IsSightSound}
use Rattle.flight_rows.proofs.TellLemmas.{sight_sound}
use Rattle.flight_rows.proofs.table.Flights.into_parts.Goals as goal

pub returns-clause-sound : goal.returns-clause-sound
returns-clause-sound g c = subst IsSightSound c.self.view_is (sight_sound _ _ _ _ _ _ _ _ _ _ _ _ _ _ _ (g.D.Dial.origin c.self.inside.dial) c.self.invariant.0 c.self.invariant.1)
