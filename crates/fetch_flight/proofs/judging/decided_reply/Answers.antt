use Rattle.fetch_flight.proofs.FlightLemmas.{decided-as}
use Rattle.fetch_flight.proofs.judging.decided_reply.Goals as goal

pub returns : goal.returns
returns g c = decided-as c.args.parcel.now c.reply.result c.requires c.reply.ensures
