use Rattle.std.proofs.Common.{◌≡◌, ◌+◌, ◌≤◌, ◌<◌, length, ap, sym, arith}
use Rattle.std.specs.List.{remove}
use Rattle.std.proofs.lemmas.List.Edits.{length-remove}
use Rattle.query_future.proofs.StandsLemmas.{removed_is, stands_missed}
use Rattle.query_future.proofs.driving.missed.Goals as goal

pub returns-clause-rests : goal.returns-clause-rests
returns-clause-rests g c =
    let w = c.requires.was in
    let e = removed_is c.args.track.now.window.items c.args.track.now.cursor w.1 c.remove-pair.result w.2 c.remove-pair.ensures.value in
    let n : length (remove c.args.track.now.window.items c.args.track.now.cursor) + 1 ≡ length c.args.track.now.window.items = length-remove c.args.track.now.window.items c.args.track.now.cursor w.2.low in
    let low : c.args.track.now.cursor < length c.args.track.now.window.items = w.2.low in
    let few : length c.args.track.now.window.items ≤ 8 = c.requires.few in
    record {
      stands = rw c.remove-pair.ensures.items (stands_missed g.L.Conn.facts g.L.Conn.from c.args.plan c.unmark.new.self w.0 c.args.track.now.pass c.args.track.now.window.items c.args.track.now.asked.items c.args.track.now.again c.args.track.now.cursor w.1 w.3 w.2 w.4 (rw e at c.unmark.ensures));
      in_hand = c.requires.idle;
      cursor_in = rw c.remove-pair.ensures.items (omega arith);
      few = rw c.remove-pair.ensures.items (omega arith);
    }
