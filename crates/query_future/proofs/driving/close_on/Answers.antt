use Rattle.std.proofs.Common.{◌≡◌}
use Rattle.query_future.proofs.HandLemmas.{rests_closed}
use Rattle.query_future.proofs.driving.close_on.Goals as goal

pub returns-clause-rests : goal.returns-clause-rests
returns-clause-rests g c =
    rests_closed g.D.Link.Conn.facts g.D.Link.Conn.from c.args.work c.ended-work.result (record { pass = c.args.track.now.pass; window = c.args.track.now.window.items; cursor = c.args.track.now.cursor; asked = c.args.track.now.asked.items; again = c.args.track.now.again }) c.close.new.pass c.requires.rests c.requires.due c.tell_whole.ensures c.ended-work.ensures c.close.ensures.is
