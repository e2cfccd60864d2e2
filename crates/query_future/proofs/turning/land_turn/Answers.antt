use Rattle.std.proofs.Common.{◌≡◌, ◌∙◌, sym, length}
use Rattle.query_future.specs.declared.parts.Due.TheVariants.{Land}
use Rattle.query_future.specs.Sections.{seen}
use Rattle.query_future.proofs.DueLemmas.{hand_due}
use Rattle.query_future.proofs.TurnLemmas.{turned_live, keeps_going}
use Rattle.query_future.proofs.turning.land_turn.Goals as goal

pub returns-clause-turned : goal.returns-clause-turned
returns-clause-turned g c =
    let d = hand_due c.args.track.now.pass.live c.args.doing.hand c.args.doing.work (length c.args.track.now.window.items) Land (λ h. cc) (λ h. cc) (λ h. cc) (λ h. cc) c.requires.due in
    let e = c.land_on-work.ensures in
    turned_live g.D.Link.Conn.facts g.D.Link.Conn.from c.args.table.now c.land_on-work.new.table (seen c.args.track.now) (seen c.land_on-work.new.track) c.args.doing.work c.land_on-work.result.0 c.land_on-work.result.1
    e.rests e.carries
    (keeps_going c.args.doing.work c.land_on-work.result.0 c.in-Going.plan c.in-Going.is e.request)
    (e.live ∙ d.0)
