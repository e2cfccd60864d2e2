use Rattle.std.proofs.Common.{sym, ap, ◌∙◌}
use Rattle.flight_journal.specs.State.{is_one_of}
use Rattle.flight_rows.proofs.row.Row.place.Goals as goal

pub returns-in-Here : goal.returns-in-Here
returns-in-Here g c = (sym (c.is_among.ensures ∙ ap (is_one_of c.args.query) c.deref.ensures.value) ∙ c.if-is_among.true, (c.in-Here.field-0, c.in-Here.is))

pub returns-in-Away : goal.returns-in-Away
returns-in-Away g c = (sym (c.is_among.ensures ∙ ap (is_one_of c.args.query) c.deref.ensures.value) ∙ c.if-is_among.true, (c.in-Away.field-0, c.in-Away.is))

pub returns-in-Came : goal.returns-in-Came
returns-in-Came g c = (sym (c.is_among.ensures ∙ ap (is_one_of c.args.query) c.deref.ensures.value) ∙ c.if-is_among.true, (c.in-Came.field-0, c.in-Came.is))
