use Rattle.std.proofs.Common.{◌≡◌, length}
use Rattle.query_future.specs.declared.parts.Due.TheVariants.{Lose}
use Rattle.query_future.specs.declared.parts.Hand.TheVariants.{Refused}
use Rattle.query_future.specs.declared.parts.Work.TheVariants.{Going}
use Rattle.query_future.specs.Sections.{seen}
use Rattle.query_future.proofs.DueLemmas.{hand_due, lost_hand}
use Rattle.query_future.proofs.TurnLemmas.{rests_as}
use Rattle.query_future.proofs.turning.lose_turn.Goals as goal

pub lose_on-requires-clause-rests : goal.lose_on-requires-clause-rests
lose_on-requires-clause-rests g c =
    let d = hand_due c.args.track.now.pass.live c.args.doing.hand c.args.doing.work (length c.args.track.now.window.items) Lose (λ h. cc) (λ h. cc) (λ h. cc) (λ h. cc) c.requires.due in
    λ _ _. rests_as g.D.Link.Conn.facts g.D.Link.Conn.from c.args.doing.work (Going c.in-Going.plan) c.args.doing.hand Refused (seen c.args.track.now) c.in-Going.is (lost_hand c.args.doing.hand d.1) c.requires.rests
