use Rattle.flight_table.specs.Lines.{of_door, door_in}
use Rattle.flight_table.specs.Doors.{joined_door}
use Rattle.flight_table.proofs.saying.join.Given as goal

abbrev pub ghosts-join_named : goal.ghosts-join_named
ghosts-join_named g a = record { line = of_door (joined_door (door_in a.slip.now.1) (door_in a.other.now.1)) }
