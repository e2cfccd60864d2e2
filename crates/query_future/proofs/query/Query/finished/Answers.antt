use Rattle.std.proofs.Common.{◌≡◌, Some, ap, refl, subst}
use Rattle.query_future.specs.declared.parts.Finished.{Finished}
use Rattle.query_future.specs.Queries.{Finishes, Queried}
use Rattle.query_future.specs.Sections.{seen}
use Rattle.query_future.proofs.query.Query.finished.Goals as goal

pub returns-clause-finishes : goal.returns-clause-finishes
returns-clause-finishes g c =
    let end : Finished g.row.D-Link.Denot = record { query = Some c.query.result; calls = c.calls.result; again = c.self.inside.track.again; asked = c.self.inside.track.asked; outcome = c.outcome_of-outcome.result } in
    subst (λ (q : Queried g.row.D-Link.Denot). Finishes g.D.Link.Conn.facts g.D.Link.Conn.from q end) c.self.view_is
    (record {
      query = ap Some c.query.ensures;
      calls = c.calls.ensures;
      again = refl;
      asked = refl;
      stood = c.outcome_of-outcome.ensures.stands (seen c.self.inside.track) c.self.invariant.0.rests.stands;
      request = c.outcome_of-outcome.ensures.request;
    })
