use Rattle.flight_table.specs.Lines.{of_door, door_in}
use Rattle.flight_table.specs.Saying.{marked_by}
use Rattle.flight_table.proofs.saying.mark_door.Given as goal

abbrev pub ghosts-remark : goal.ghosts-remark
ghosts-remark g a = record { line = of_door (marked_by a.mark (door_in a.slip.now.1)) }
