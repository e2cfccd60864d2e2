use Rattle.std.proofs.Common.{◌≡◌, sym}
use Rattle.fetch_flight.specs.declared.flying.Progress.TheVariants as progress
use Rattle.query_future.proofs.ParcelLemmas.{same_number, steps_judged, waited_rose}
use Rattle.query_future.proofs.driving.step_on.Goals as goal

pub returns-in-Ready : goal.returns-in-Ready
returns-in-Ready g c =
    steps_judged g.L.Conn.facts g.L.Conn.from c.args.parcel c.advance.new.parcel c.judged.result.0 c.judged.result.1 c.advance.ensures.target
    (same_number g.L.Conn.facts c.args.parcel c.advance.new.parcel progress.Ready (rw c.in-Ready.is at c.advance.ensures.says)) c.advance.ensures.from c.judged.ensures

pub returns-in-NotYet : goal.returns-in-NotYet
returns-in-NotYet g c = (
  c.in-NotYet.ensures.going,
  c.advance.ensures.target,
  same_number g.L.Conn.facts c.args.parcel c.advance.new.parcel progress.NotYet c.in-NotYet.ensures.says,
  c.advance.ensures.from,
  waited_rose g.L.Conn.facts c.args.parcel c.advance.new.parcel c.in-NotYet.ensures.says,
)
