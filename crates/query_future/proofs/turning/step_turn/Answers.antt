use Rattle.std.proofs.Common.{◌≡◌, ◌∙◌, sym, length, subst}
use Rattle.query_future.specs.declared.parts.Due.TheVariants.{Step}
use Rattle.query_future.specs.declared.parts.Hand.{Hand}
use Rattle.query_future.specs.Sections.{seen}
use Rattle.query_future.specs.Stands.{Rests}
use Rattle.query_future.proofs.DueLemmas.{hand_due}
use Rattle.query_future.proofs.TurnLemmas.{carries_same, turned_live, rests_stepped, request_step}
use Rattle.query_future.proofs.turning.step_turn.Goals as goal

pub returns-clause-turned : goal.returns-clause-turned
returns-clause-turned g c =
    let t = seen c.args.track.now in
    let d = hand_due c.args.track.now.pass.live c.args.doing.hand c.args.doing.work (length c.args.track.now.window.items) Step (λ h. cc) (λ h. cc) (λ h. cc) (λ h. cc) c.requires.due in
    λ s. turned_live g.L.Conn.facts g.L.Conn.from s s t t c.args.doing.work c.after_step-work.result c.step_on-hand.result.0
    (rests_stepped g.L.Conn.facts g.L.Conn.from c.args.doing.work c.after_step-work.result c.in-Fresh.parcel c.step_on-hand.result.0 c.step_on-hand.result.1 t (subst (λ (z : Hand _). Rests g.L.Conn.facts g.L.Conn.from c.args.doing.work z t) c.in-Fresh.is c.requires.rests) c.step_on-hand.ensures c.after_step-work.ensures)
    (carries_same s c.args.track.now.pass)
    (request_step c.args.doing.work c.after_step-work.result c.step_on-hand.result.1 c.after_step-work.ensures)
    d.0
