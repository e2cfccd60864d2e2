use Rattle.std.proofs.Common.{arith}
use Rattle.flight_table.proofs.RisingLemmas.{below_by}
use Rattle.flight_table.proofs.entered.place_of.Goals as goal

pub returns-else-flights-place-clause-below : goal.returns-else-flights-place-clause-below
returns-else-flights-place-clause-below c =
    let some = c.loop-place-test.true in
    let last = c.if-flights-place.false in
    below_by c.args.flights.now c.args.f c.loop-place.place c.requires.rising c.loop-place.invariant.within (omega arith) (omega arith)
