use Rattle.std.proofs.Common.{◌≡◌, ap, subst}
use Rattle.query_future.specs.declared.turning.Doing.{Doing}
use Rattle.query_future.specs.Queries.{Queried, Turns}
use Rattle.query_future.specs.Sections.{seen}
use Rattle.query_future.proofs.QueryLemmas.{no_sight, query_turned, turn_seen}
use Rattle.query_future.proofs.query.Query.step_section.Goals as goal

pub invariant_of-self : goal.invariant_of-self
invariant_of-self g c =
    let new : Queried g.row.D-Link.Denot = record { track = seen c.self.inside.track; work = c.settle.new.place.work; hand = c.settle.new.place.hand; counts = c.settle.new.counts } in (
      query_turned g.D.Link.Conn.facts g.D.Link.Conn.from no_sight no_sight (seen c.self.inside.track) c.replace-doing.result.work new c.step_turn-doing.result.0.work c.step_turn-doing.result.0.hand (c.step_turn-doing.ensures.turned no_sight)
          (ap (λ (z : Doing g.row.D-Link.Denot). z.work) c.settle.ensures.doing) (ap (λ (z : Doing g.row.D-Link.Denot). z.hand) c.settle.ensures.doing),
      c.self.invariant.1,
    )

pub returns-clause-turns : goal.returns-clause-turns
returns-clause-turns g c =
    let old : Queried g.row.D-Link.Denot = record { track = seen c.self.inside.track; work = c.self.inside.doing.work; hand = c.self.inside.doing.hand; counts = c.self.inside.counts } in
    let new : Queried g.row.D-Link.Denot = record { track = seen c.self.inside.track; work = c.settle.new.place.work; hand = c.settle.new.place.hand; counts = c.settle.new.counts } in
    λ s. subst (λ (q : Queried g.row.D-Link.Denot). Turns g.D.Link.Conn.facts g.D.Link.Conn.from s s q new c.step_turn-doing.result.1) c.self.view_is
    (turn_seen g.D.Link.Conn.facts g.D.Link.Conn.from s s old new c.replace-doing.result.work c.step_turn-doing.result.0.work c.step_turn-doing.result.0.hand c.step_turn-doing.result.1 (c.step_turn-doing.ensures.turned s)
    (ap (λ (z : Doing g.row.D-Link.Denot). z.work) c.replace-doing.ensures.value) (ap (λ (z : Doing g.row.D-Link.Denot). z.work) c.settle.ensures.doing) (ap (λ (z : Doing g.row.D-Link.Denot). z.hand) c.settle.ensures.doing) c.settle.ensures.counts)
