use Rattle.std.proofs.Common.{◌≡◌, ap, sym, subst}
use Rattle.query_future.proofs.StandsLemmas.{stands_awaits}
use Rattle.query_future.proofs.asking.awaited.Goals as goal

pub returns-clause-stands : goal.returns-clause-stands
returns-clause-stands g c =
    let w = c.requires.was in
    rw (c.mark.ensures, c.push_reserved.ensures.items, c.push_reserved-2.ensures.items)
    (stands_awaits g.L.Conn.facts g.L.Conn.from c.args.plan w.0 c.args.track.now.pass c.args.track.now.window.items c.args.track.now.asked.items c.args.track.now.again c.args.flight c.args.need c.args.target w.1 c.requires.next c.requires.target c.requires.plain w.2)
