use Rattle.std.proofs.Common.{◌≡◌, ◌<◌, ◌≤◌, ◌∙◌, sym, length, subst, arith, vec_len}
use Rattle.query_future.specs.declared.parts.Work.{Work}
use Rattle.query_future.specs.Sections.{seen}
use Rattle.query_future.specs.Stands.{Stands}
use Rattle.query_future.proofs.DueLemmas.{take_due, take_some}
use Rattle.query_future.proofs.TurnLemmas.{turned_live, keeps_going, rests_begun}
use Rattle.query_future.proofs.turning.take_turn.Goals as goal

pub take_on-work-requires-clause-below : goal.take_on-work-requires-clause-below
take_on-work-requires-clause-below g c =
    let d = take_due c.args.track.now.pass.live c.args.doing.hand c.args.doing.work (length c.args.track.now.window.items) c.requires.due in
    let s = subst (λ (z : Work _). Stands g.D.Link.Conn.facts g.D.Link.Conn.from z (seen c.args.track.now)) c.in-Going.is c.requires.rests.stands in
    let n = take_some c.the_end_is_done.ensures.done c.args.track.now.pass.live c.args.doing.hand c.args.doing.work c.in-Going.plan c.args.track.now.pass c.args.track.now.window.items c.in-Going.is d s.paired in
    let e : length c.args.track.now.window.items ≡ c.len.result = sym c.args.track.now.window.ok.0 ∙ sym c.len.ensures in
    λ _ _. subst (λ z. c.begun-track.result < z) (sym e) (c.begun-track.ensures (subst (λ z. 0 < z) e n) (subst (λ z. c.args.track.now.cursor ≤ z) e c.requires.rests.cursor_in))

pub take_on-work-requires-clause-rests : goal.take_on-work-requires-clause-rests
take_on-work-requires-clause-rests g c =
    let d = take_due c.args.track.now.pass.live c.args.doing.hand c.args.doing.work (length c.args.track.now.window.items) c.requires.due in
    λ k l. let b : c.begun-track.result < length c.args.track.now.window.items = take_on-work-requires-clause-below g c k l in
    rests_begun g.D.Link.Conn.facts g.D.Link.Conn.from c.args.doing.work c.in-Going.plan c.args.doing.hand (seen c.args.track.now) c.begun-track.result c.requires.rests d.empty c.in-Going.is (omega arith)

pub returns-clause-turned : goal.returns-clause-turned
returns-clause-turned g c =
    let d = take_due c.args.track.now.pass.live c.args.doing.hand c.args.doing.work (length c.args.track.now.window.items) c.requires.due in
    let e = c.take_on-work.ensures in
    turned_live g.D.Link.Conn.facts g.D.Link.Conn.from c.args.table.now c.take_on-work.new.table (seen c.args.track.now) (seen c.take_on-work.new.track) c.args.doing.work c.take_on-work.result.0 c.take_on-work.result.1
    e.rests e.carries
    (keeps_going c.args.doing.work c.take_on-work.result.0 c.in-Going.plan c.in-Going.is e.request)
    (e.live ∙ d.live)
