use Rattle.std.proofs.Common.{◌≡◌, ap, sym, subst, [], ◌∷◌, ◌++◌}
use Rattle.link_io.specs.declared.target.Key.{Key}
use Rattle.link_io.specs.declared.target.Target.{Target}
use Rattle.fetch_flight.specs.Verdict.{comes_from, key_of, number_of, size_of}
use Rattle.flight_rows.specs.Rows.{Comes}
use Rattle.flight_table.specs.Follows.{Hits}
use Rattle.query_future.proofs.AmongLemmas.{among_mid}
use Rattle.query_future.proofs.MarkLemmas.{has_among}
use Rattle.query_future.proofs.StandsLemmas.{stands_kept, takes_request, takes_sure}
use Rattle.query_future.proofs.asking.kept.Goals as goal

pub take_in-requires-clause-marked : goal.take_in-requires-clause-marked
take_in-requires-clause-marked g c = rw c.mark.ensures (has_among (c.args.plan.marked ++ c.args.need ∷ []) c.args.need (among_mid c.args.need c.args.plan.marked []))

pub returns-clause-stands : goal.returns-clause-stands
returns-clause-stands g c =
    let w = c.requires.was in
    rw c.push_reserved.ensures.items
    (stands_kept g.L.Conn.facts g.L.Conn.from c.args.plan w.0 c.args.track.now.pass c.args.track.now.window.items c.args.track.now.asked.items c.args.track.now.again c.args.track.now.cursor w.1 c.args.need c.args.value.value c.take_in.result.0 c.take_in.result.1 w.2 c.requires.next
    (subst (λ (t : Target). Hits (Comes key_of size_of (number_of g.L.Conn.facts) (comes_from g.L.Conn.from) w.0.base w.0.origin) w.1 t.key c.args.value.value w.0 c.args.track.now.pass) c.requires.target w.3)
    (rw c.mark.ensures at c.take_in.ensures))

pub returns-clause-request : goal.returns-clause-request
returns-clause-request g c = takes_request g.L.Conn.facts g.L.Conn.from c.args.need c.args.value.value (record c.args.plan { marked = c.args.plan.marked ++ c.args.need ∷ [] }) c.take_in.result.0 c.take_in.result.1 (rw c.mark.ensures at c.take_in.ensures)

pub returns-clause-sure : goal.returns-clause-sure
returns-clause-sure g c = takes_sure g.L.Conn.facts g.L.Conn.from c.args.need c.args.value.value c.mark.new.self c.take_in.result.0 c.take_in.result.1 c.take_in.ensures
