use Rattle.std.proofs.Common.{◌≡◌}
use Rattle.query_future.proofs.HandLemmas.{rests_lost}
use Rattle.query_future.proofs.driving.lose_on.Goals as goal

pub returns-clause-rests : goal.returns-clause-rests
returns-clause-rests g c =
    rests_lost g.D.Link.Conn.facts g.D.Link.Conn.from c.args.plan (record { pass = c.args.track.now.pass; window = c.args.track.now.window.items; cursor = c.args.track.now.cursor; asked = c.args.track.now.asked.items; again = c.args.track.now.again }) c.lose.new.pass c.index.result.now.flight c.requires.rests c.lose.ensures.loses
