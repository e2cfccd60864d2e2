use Rattle.std.proofs.Common.{sym, ◌∙◌}
use Rattle.fetch_flight.proofs.FlightLemmas.{whole-decided}
use Rattle.fetch_flight.proofs.judging.judged.Goals as goal

pub settled_reply-requires : goal.settled_reply-requires
settled_reply-requires g c = record { settled = whole-decided c.args.parcel c.requires.settled (sym c.broken.ensures.value ∙ c.if-broken.false) }
