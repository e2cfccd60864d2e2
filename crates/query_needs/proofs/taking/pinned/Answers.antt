use Rattle.std.proofs.Common.{◌≡◌}
use Rattle.query_needs.proofs.FitLemmas.{pinned_given}
use Rattle.query_needs.proofs.taking.pinned.Goals as goal

pub returns-in-Ok : goal.returns-in-Ok
returns-in-Ok g c =
    pinned_given g.L.Conn.facts c.args.slot c.args.value.value c.args.plan c.pin.new.self c.requires.known c.requires.needed c.requires.not_given c.requires.pin c.tell.ensures.reached c.one_need_is_filled.ensures.pin (rw c.new.ensures at c.in-Ok.ensures.ok)
