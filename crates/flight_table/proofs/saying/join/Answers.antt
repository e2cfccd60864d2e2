use Rattle.std.proofs.Common.{ℕ, Some, None, slice_set, sym, ap, ◌∙◌, subst}
use Rattle.pass_book.specs.Lines.{Lines, HasLine}
use Rattle.flight_table.specs.Doors.{Gate}
use Rattle.flight_table.specs.Lines.{Said, of_door, door_in}
use Rattle.flight_table.proofs.saying.join.Goals as goal

pub returns-clause-line : goal.returns-clause-line
returns-clause-line g c =
    let x = c.door.inside.slip.0 in
    let y = c.other.inside.slip.0 in
    let same = sym (ap (λ (s : ℕ × Said). door_in s.1) c.join_named.ensures.slip) in
    let lines = c.join_named.ensures.lines ∙ ap (λ (d : Gate). slice_set c.args.book.now x (Some (of_door d))) same in (
      x,
      y,
      c.join_named.ensures.agrees ∙ ap Some (c.door.invariant ∙ ap of_door c.door.view_is),
      subst (λ (l : Lines Said). HasLine l y (of_door c.args.other)) lines (c.take_back.ensures.agrees ∙ ap Some (c.other.invariant ∙ ap of_door c.other.view_is)),
      c.take_back.ensures.lines ∙ ap (λ (l : Lines Said). slice_set l y None) lines,
    )
