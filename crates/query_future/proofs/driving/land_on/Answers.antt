use Rattle.std.proofs.Common.{◌≡◌}
use Rattle.query_future.proofs.HandLemmas.{landed_gets}
use Rattle.query_future.proofs.driving.land_on.Goals as goal

pub got-requires-clause-was : goal.got-requires-clause-was
got-requires-clause-was g c =
    let h = c.requires.rests.in_hand in
    let i = h.2 in (
      c.args.track.now.pass,
      c.index.result.now,
      record { low = i.0.at.low; is = c.index.ensures },
      c.requires.rests.stands,
      landed_gets g.D.Link.Conn.facts g.D.Link.Conn.from c.args.plan (record { pass = c.args.track.now.pass; window = c.args.track.now.window.items; cursor = c.args.track.now.cursor; asked = c.args.track.now.asked.items; again = c.args.track.now.again }) c.land.new.pass c.index.result.now c.args.value.value c.args.copy.value h.1 c.requires.rests.stands i.0 i.1 (record { low = i.0.at.low; is = c.index.ensures }) c.land.ensures.lands,
    )
