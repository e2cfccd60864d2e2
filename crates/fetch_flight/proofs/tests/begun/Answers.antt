use Rattle.std.proofs.Common.{subst, sym}
use Rattle.link_io.specs.Parcel.{Packed}
use Rattle.http_reply.specs.Going.{IsUndecided}
use Rattle.fetch_flight.proofs.tests.begun.Goals as goal

pub returns-clause-undecided : goal.returns-clause-undecided
returns-clause-undecided c = subst (λ (p : Packed _). IsUndecided p) (sym c.new.ensures) c.nothing_is_decided_before_the_first_byte.ensures
