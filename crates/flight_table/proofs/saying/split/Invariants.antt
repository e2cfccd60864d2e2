use Rattle.flight_table.specs.Lines.{of_door, door_in}
use Rattle.flight_table.specs.Doors.{split_off}
use Rattle.flight_table.proofs.saying.split.Given as goal

abbrev pub ghosts-split_named : goal.ghosts-split_named
ghosts-split_named g a = record { line = of_door (split_off (door_in a.slip.now.1)) }
