use Rattle.pass_book.proofs.tests.changes_lines_in_two_threads.Given as goal

-- the name is that of the table whose memory was taken
abbrev pub ghosts-use_two_threads : goal.ghosts-use_two_threads
ghosts-use_two_threads g a = record { table = a.unnamed }
