use Rattle.std.proofs.Common.{subst}
use Rattle.flight_table.specs.Doors.{TellsDoor}
use Rattle.flight_table.specs.Lines.{Apart}
use Rattle.flight_table.proofs.CallLemmas.{before_door}
use Rattle.flight_table.proofs.closing.Closing.tell_door.Goals as goal

pub returns-clause-so : goal.returns-clause-so
returns-clause-so g c = subst (λ (a : Apart). TellsDoor a.was c.args.door) c.self.view_is (before_door c.self.inside.was.value c.self.inside.book c.args.door c.self.invariant.0 c.agree_door.ensures.line)
