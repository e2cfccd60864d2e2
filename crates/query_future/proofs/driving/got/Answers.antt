use Rattle.std.proofs.Common.{◌≡◌, ◌∙◌, ◌+◌, ◌≤◌, ◌<◌, length, ap, sym, subst, arith}
use Rattle.std.specs.List.{remove}
use Rattle.std.proofs.lemmas.List.Edits.{length-remove}
use Rattle.query_future.specs.declared.parts.Pair.{Pair}
use Rattle.query_future.proofs.AmongLemmas.{among_map}
use Rattle.query_future.proofs.MarkLemmas.{has_among}
use Rattle.query_future.proofs.StandsLemmas.{got_key, here, marked_here, removed_is, stands_got, takes_request, takes_sure}
use Rattle.query_future.proofs.driving.got.Goals as goal

pub take_in-work-requires-clause-needed : goal.take_in-work-requires-clause-needed
take_in-work-requires-clause-needed g c = let w = c.requires.was in let e = removed_is c.args.track.now.window.items c.args.track.now.cursor w.1 c.remove-pair.result w.2 c.remove-pair.ensures.value in rw e ((w.3.paired.own w.1 (here c.args.track.now.window.items c.args.track.now.cursor w.1 w.2)).needed)

pub take_in-work-requires-clause-not_given : goal.take_in-work-requires-clause-not_given
take_in-work-requires-clause-not_given g c = let w = c.requires.was in let e = removed_is c.args.track.now.window.items c.args.track.now.cursor w.1 c.remove-pair.result w.2 c.remove-pair.ensures.value in rw e (w.3.ungiven w.1 (here c.args.track.now.window.items c.args.track.now.cursor w.1 w.2))

pub take_in-work-requires-clause-marked : goal.take_in-work-requires-clause-marked
take_in-work-requires-clause-marked g c = let w = c.requires.was in let e = removed_is c.args.track.now.window.items c.args.track.now.cursor w.1 c.remove-pair.result w.2 c.remove-pair.ensures.value in rw e (has_among c.args.plan.marked w.1.need (marked_here g.L.Conn.facts g.L.Conn.from c.args.plan w.0 c.args.track.now.window.items c.args.track.now.cursor w.1 w.3.paired w.2))

pub take_in-work-requires-clause-target : goal.take_in-work-requires-clause-target
take_in-work-requires-clause-target g c = let w = c.requires.was in let e = removed_is c.args.track.now.window.items c.args.track.now.cursor w.1 c.remove-pair.result w.2 c.remove-pair.ensures.value in rw e ((w.3.paired.own w.1 (here c.args.track.now.window.items c.args.track.now.cursor w.1 w.2)).target)

pub take_in-work-requires-clause-keyed : goal.take_in-work-requires-clause-keyed
take_in-work-requires-clause-keyed g c = let w = c.requires.was in let e = removed_is c.args.track.now.window.items c.args.track.now.cursor w.1 c.remove-pair.result w.2 c.remove-pair.ensures.value in rw e (got_key g.L.Conn.facts g.L.Conn.from c.args.plan w.0 c.args.track.now.pass c.args.track.now.window.items c.args.track.now.cursor w.1 c.args.value.value w.3.paired w.2 w.4)

pub returns-clause-rests : goal.returns-clause-rests
returns-clause-rests g c =
    let w = c.requires.was in
    let e = removed_is c.args.track.now.window.items c.args.track.now.cursor w.1 c.remove-pair.result w.2 c.remove-pair.ensures.value in
    let n : length (remove c.args.track.now.window.items c.args.track.now.cursor) + 1 ≡ length c.args.track.now.window.items = length-remove c.args.track.now.window.items c.args.track.now.cursor w.2.low in
    let low : c.args.track.now.cursor < length c.args.track.now.window.items = w.2.low in
    let few : length c.args.track.now.window.items ≤ 8 = c.requires.few in
    record {
      stands = rw (c.remove-pair.ensures.items, c.repeated-track.ensures) (stands_got g.L.Conn.facts g.L.Conn.from c.args.plan w.0 c.args.track.now.pass c.args.track.now.window.items c.args.track.now.asked.items c.args.track.now.again c.args.track.now.cursor w.1 c.args.value.value c.take_in-work.result.0 c.take_in-work.result.1 w.3 c.tell.ensures.reached w.2 w.4 (rw e at c.take_in-work.ensures));
      in_hand = c.requires.idle;
      cursor_in = rw c.remove-pair.ensures.items (omega arith);
      few = rw c.remove-pair.ensures.items (omega arith);
    }

pub returns-clause-request : goal.returns-clause-request
returns-clause-request g c = takes_request g.L.Conn.facts g.L.Conn.from c.remove-pair.result.need c.args.value.value c.args.plan c.take_in-work.result.0 c.take_in-work.result.1 c.take_in-work.ensures

pub returns-clause-sure : goal.returns-clause-sure
returns-clause-sure g c = takes_sure g.L.Conn.facts g.L.Conn.from c.remove-pair.result.need c.args.value.value c.args.plan c.take_in-work.result.0 c.take_in-work.result.1 c.take_in-work.ensures
