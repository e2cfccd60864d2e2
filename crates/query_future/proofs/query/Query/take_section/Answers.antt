use Rattle.std.proofs.Common.{◌≡◌, ap, subst}
use Rattle.query_future.specs.declared.turning.Doing.{Doing}
use Rattle.query_future.specs.Queries.{Queried, Turns}
use Rattle.query_future.specs.Sections.{seen}
use Rattle.query_future.proofs.QueryLemmas.{turn_seen}
use Rattle.query_future.proofs.query.Query.take_section.Goals as goal

pub returns-clause-turns : goal.returns-clause-turns
returns-clause-turns g c =
    let old : Queried g.row.D-Link.Denot = record { track = seen c.self.inside.track; work = c.self.inside.doing.work; hand = c.self.inside.doing.hand; counts = c.self.inside.counts } in
    let new : Queried g.row.D-Link.Denot = record { track = seen c.take_turn-doing.new.track; work = c.settle.new.place.work; hand = c.settle.new.place.hand; counts = c.settle.new.counts } in
    subst (λ (q : Queried g.row.D-Link.Denot). Turns g.D.Link.Conn.facts g.D.Link.Conn.from c.args.table.now c.take_turn-doing.new.table q new c.take_turn-doing.result.1) c.self.view_is
    (turn_seen g.D.Link.Conn.facts g.D.Link.Conn.from c.args.table.now c.take_turn-doing.new.table old new c.replace-doing.result.work c.take_turn-doing.result.0.work c.take_turn-doing.result.0.hand c.take_turn-doing.result.1 c.take_turn-doing.ensures.turned
    (ap (λ (z : Doing g.row.D-Link.Denot). z.work) c.replace-doing.ensures.value) (ap (λ (z : Doing g.row.D-Link.Denot). z.work) c.settle.ensures.doing) (ap (λ (z : Doing g.row.D-Link.Denot). z.hand) c.settle.ensures.doing) c.settle.ensures.counts)
