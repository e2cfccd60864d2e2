use Rattle.std.proofs.Common.{◌≡◌, ap, sym, subst}
use Rattle.query_future.proofs.HandLemmas.{ends_gets, misses_here, rests_flying, rests_memory}
use Rattle.query_future.proofs.driving.take_on.Goals as goal

pub got-requires-clause-was : goal.got-requires-clause-was
got-requires-clause-was g c = (
  c.args.track.now.pass,
  c.index.result.now,
  record { low = c.requires.below; is = c.index.ensures },
  c.requires.rests.stands,
  ends_gets g.D.Link.Conn.facts g.D.Link.Conn.from c.index.result.now.flight c.in-Ended.value.value c.args.track.now.pass c.take.new.pass c.in-Ended.ensures.says,
)

pub missed-requires-clause-was : goal.missed-requires-clause-was
missed-requires-clause-was g c = (
  c.args.track.now.pass,
  c.index.result.now,
  record { low = c.requires.below; is = c.index.ensures },
  c.requires.rests.stands,
  misses_here g.D.Link.Conn.facts g.D.Link.Conn.from c.args.plan c.args.track.now.pass c.take.new.pass c.args.track.now.window.items c.args.track.now.cursor c.index.result.now c.requires.rests.stands.paired (record { low = c.requires.below; is = c.index.ensures }) c.in-Again.ensures.says,
)

pub returns-in-Parcel-clause-rests : goal.returns-in-Parcel-clause-rests
returns-in-Parcel-clause-rests g c =
    rests_flying g.D.Link.Conn.facts g.D.Link.Conn.from c.args.plan (record { pass = c.args.track.now.pass; window = c.args.track.now.window.items; cursor = c.args.track.now.cursor; asked = c.args.track.now.asked.items; again = c.args.track.now.again }) c.take.new.pass c.index.result.now c.in-Parcel.parcel c.requires.rests (record { low = c.requires.below; is = c.index.ensures }) c.in-Parcel.ensures.says.0 c.in-Parcel.ensures.says.1

pub returns-in-Memory-clause-rests : goal.returns-in-Memory-clause-rests
returns-in-Memory-clause-rests g c =
    rw c.in-Memory.ensures.says (rests_memory g.D.Link.Conn.facts g.D.Link.Conn.from c.args.plan (record { pass = c.args.track.now.pass; window = c.args.track.now.window.items; cursor = c.args.track.now.cursor; asked = c.args.track.now.asked.items; again = c.args.track.now.again }) c.requires.rests)
