use Rattle.std.proofs.Common.{inr}
use Rattle.fetch_flight.proofs.flying.listen.Goals as goal

pub returns-else-is_decided-clause-says : goal.returns-else-is_decided-clause-says
returns-else-is_decided-clause-says g c =
    (c.is_decided.ensures.no c.if-is_decided.false, inr (record { asked = c.requires.asked; stepped = rw c.in-Ok-Got.field-0-is at c.in-Ok-Got.ensures.ok }))
