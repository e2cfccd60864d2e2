use Rattle.std.proofs.Common.{sym, ap, ◌∙◌, arith}
use Rattle.flight_table.specs.Facts.{Facts}
use Rattle.flight_table.specs.Saying.{said_by}
use Rattle.flight_table.proofs.ChangeLemmas.{entry_calls}
use Rattle.flight_table.proofs.CountingLemmas.{few_calls}
use Rattle.flight_table.proofs.saying.record_change.Goals as goal

pub counted-told-inside-requires-after_bounds : goal.counted-told-inside-requires-after_bounds
counted-told-inside-requires-after_bounds g c =
    let known = c.requires.knows.calls in
    let few = few_calls (said_by c.args.change c.args.flights.now c.args.told.now).query c.args.flights.now.journal in
    let more = entry_calls c.args.change c.args.flights.now c.args.told.now (sym c.is_entry.ensures ∙ c.if-is_entry.true) in
    let own = c.told.invariant.2 ∙ ap (λ (p : Facts). p.calls) c.told.view_is in
    omega arith
