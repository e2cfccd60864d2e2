use Rattle.pass_book.proofs.tests.use_three_slips.Given as goal

abbrev pub ghosts-issue_count : goal.ghosts-issue_count
ghosts-issue_count g a = record { line = a.count }
