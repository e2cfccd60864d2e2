use Rattle.std.proofs.Common.{◌≡◌}
use Rattle.query_future.specs.Dues.{no_counts}
use Rattle.query_future.proofs.QueryLemmas.{query_new}
use Rattle.query_future.proofs.query.Query.begun.Goals as goal

pub invariant_of-result : goal.invariant_of-result
invariant_of-result g c = (rw (c.requires.window, c.new.ensures.items) (query_new g.D.Link.Conn.facts g.D.Link.Conn.from c.args.plan c.requires.untouched c.requires.formed c.args.pass c.requires.pass no_counts), c.requires.room)
