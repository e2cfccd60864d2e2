use Rattle.std.proofs.Common.{◌≡◌, true, sym, subst}
use Rattle.flight_journal.specs.State.{is_one_of}
use Rattle.flight_table.proofs.RisingLemmas.{one_else}
use Rattle.flight_table.proofs.entered.put.Goals as goal

pub returns-clause-others : goal.returns-clause-others
returns-clause-others c = λ g one. subst (λ l. is_one_of g l ≡ true) (sym c.in-Ok.ensures.items) (one_else g c.args.f c.place_of-place.result c.args.flights.now.items one)
