use Rattle.std.proofs.Common.{◌≡◌, sym}
use Rattle.query_future.proofs.NextLemmas.{next_of_plan}
use Rattle.query_future.proofs.asking.next_need.Goals as goal

pub returns-clause-next : goal.returns-clause-next
returns-clause-next g c = next_of_plan g.L.Conn.facts c.args.plan.now c.next.result c.index_addresses_are_apart.ensures c.the_next_can_be_marked.ensures c.requires.known c.tell.ensures c.next.ensures.fit c.next.ensures.least
