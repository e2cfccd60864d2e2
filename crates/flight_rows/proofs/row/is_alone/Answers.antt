use Rattle.std.proofs.Common.{sym, ◌∙◌, subst}
use Rattle.flight_rows.specs.Changes.{IsLone}
use Rattle.flight_rows.proofs.WriteLemmas.{one_some}
use Rattle.flight_rows.proofs.row.is_alone.Goals as goal

pub returns-in-Some-clause-yes : goal.returns-in-Some-clause-yes
returns-in-Some-clause-yes g c = λ t. (c.in-Some.row.now, sym c.in-Some.ensures.value, c.is_lone.ensures.yes t)

pub returns-in-Some-clause-no : goal.returns-in-Some-clause-no
returns-in-Some-clause-no g c = λ r known lone. c.is_lone.ensures.no (subst IsLone (one_some r c.in-Some.row.now (sym known ∙ sym c.in-Some.ensures.value)) lone)
