use Rattle.std.proofs.Common.{◌≡◌}
use Rattle.query_needs.proofs.FitLemmas.{filled_given}
use Rattle.query_needs.proofs.taking.filled.Goals as goal

pub returns-in-Ok : goal.returns-in-Ok
returns-in-Ok g c =
    filled_given g.L.Conn.facts c.args.slot c.args.n c.args.value.value c.args.plan c.give.new.self c.requires.known c.requires.needed c.requires.not_given c.requires.leaf c.tell.ensures.reached c.tell-in-Ok.ensures.reached c.one_need_is_filled.ensures.give (rw c.new.ensures at c.in-Ok.ensures.ok)
