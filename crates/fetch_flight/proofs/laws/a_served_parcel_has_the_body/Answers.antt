use Rattle.std.proofs.Common.{ap, ◌∙◌}
use Rattle.link_io.specs.Origin.{reply_at}
use Rattle.fetch_flight.proofs.TellLemmas.{told-body}
use Rattle.fetch_flight.proofs.laws.a_served_parcel_has_the_body.Goals as goal

pub returns : goal.returns
returns g c = λ world reply body from has whole decided.
    let known = c.link-link.ensures.known in
    let link = c.args.parcel.now.link in
    let tells = g.met.L.Conn.tells link world from in
    told-body c.args.parcel.now.received reply body whole c.args.parcel.now.ended _ _ decided.reply tells.given known.received
    (tells.whole reply (ap (λ t. reply_at t.url world) known.target ∙ has)) (g.met.L.Conn.front link) known.ended decided.decided
