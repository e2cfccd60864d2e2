use Rattle.std.proofs.Common.{sym, ◌∙◌}
use Rattle.flight_rows.proofs.WriteLemmas.{no_items, empty_is}
use Rattle.flight_rows.proofs.row.Row.is_lone.Goals as goal

pub returns-in-Here-clause-yes : goal.returns-in-Here-clause-yes
returns-in-Here-clause-yes g c = λ t. (no_items _ c.args.self.now.queries.ok.0 (sym c.is_empty.ensures ∙ t), (c.in-Here.field-0, c.in-Here.is))

pub returns-in-Here-clause-no : goal.returns-in-Here-clause-no
returns-in-Here-clause-no g c = λ lone. c.is_empty.ensures ∙ empty_is _ c.args.self.now.queries.ok.0 lone.0
