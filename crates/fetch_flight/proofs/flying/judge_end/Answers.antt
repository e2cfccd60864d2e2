use Rattle.fetch_flight.proofs.FlightLemmas.{decided-at-end}
use Rattle.fetch_flight.proofs.flying.judge_end.Goals as goal

pub returns : goal.returns
returns g c = decided-at-end c.args.parcel.now c.reply.result c.requires c.reply.ensures
