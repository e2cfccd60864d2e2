use Rattle.std.proofs.Common.{◌≡◌, sym}
use Rattle.query_needs.proofs.FitLemmas.{owns_by}
use Rattle.query_needs.proofs.taking.own_wreck.Goals as goal

-- src/taking.rt:62:44
pub returns-in-Wreck : goal.returns-in-Wreck
returns-in-Wreck g c = owns_by g.L.Conn.facts c.args.value.now.value c.args.target.now c.in-Wreck.wreck c.is_same.result (rw c.deref.ensures at c.in-Wreck.is) c.target.ensures.known (rw c.target.ensures.value at c.is_same.ensures)
