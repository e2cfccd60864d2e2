use Rattle.pass_book.proofs.tests.changes_one_line_and_takes_back_another.Given as goal

-- the name is that of the table whose memory was taken
abbrev pub ghosts-use_three_slips : goal.ghosts-use_three_slips
ghosts-use_three_slips a = record { table = a.unnamed }
