use Rattle.std.proofs.Common.{◌≡◌, ◌∙◌, sym, length}
use Rattle.query_future.specs.Sections.{seen}
use Rattle.query_future.proofs.DueLemmas.{ask_due}
use Rattle.query_future.proofs.TurnLemmas.{turned_live, keeps_going, ask_rests}
use Rattle.query_future.proofs.turning.ask_turn.Goals as goal

pub returns-clause-turned : goal.returns-clause-turned
returns-clause-turned g c =
    let d = ask_due c.args.track.now.pass.live c.args.doing.hand c.args.doing.work (length c.args.track.now.window.items) c.requires.due in
    let e = c.ask_on-work.ensures in
    turned_live g.D.Link.Conn.facts g.D.Link.Conn.from c.args.table.now c.ask_on-work.new.table (seen c.args.track.now) (seen c.ask_on-work.new.track) c.args.doing.work c.ask_on-work.result.0 c.args.doing.hand
    (ask_rests g.D.Link.Conn.facts g.D.Link.Conn.from c.args.doing.work c.ask_on-work.result.0 c.args.doing.hand (seen c.args.track.now) (seen c.ask_on-work.new.track) c.requires.rests d.empty d.few e.stands e.same)
    e.carries
    (keeps_going c.args.doing.work c.ask_on-work.result.0 c.in-Going.plan c.in-Going.is e.request)
    (e.same.live ∙ d.live)
