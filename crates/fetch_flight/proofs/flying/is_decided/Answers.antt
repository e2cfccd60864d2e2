use Rattle.std.proofs.Common.{sym, ◌∙◌}
use Rattle.fetch_flight.proofs.FlightLemmas.{decided-by, open-by}
use Rattle.fetch_flight.proofs.flying.is_decided.Goals as goal

pub returns-clause-yes : goal.returns-clause-yes
returns-clause-yes g c = λ yes'. decided-by c.args.parcel.now c.reply.result c.reply.ensures (sym c.settles.ensures ∙ yes')

pub returns-clause-no : goal.returns-clause-no
returns-clause-no g c = λ no'. open-by c.args.parcel.now c.reply.result c.reply.ensures (sym c.settles.ensures ∙ no')
