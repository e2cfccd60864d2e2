use Rattle.std.proofs.Common.{arith}
use Rattle.flight_rows.proofs.EachLemmas.{part_more}
use Rattle.flight_rows.proofs.row.part_each.Goals as goal

pub loop-i-preserved : goal.loop-i-preserved
loop-i-preserved g c =
    let i = c.loop-i.invariant in
    let m = part_more c.args.query c.args.flights.now c.args.rows.now c.loop-i.i c.loop-i.rows c.part_row.new.rows c.requires.rising (omega arith) i.parted i.others c.part_row.ensures.here c.part_row.ensures.others in
    record { parted = m.0; others = m.1 }
