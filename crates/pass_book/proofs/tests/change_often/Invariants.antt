use Rattle.pass_book.proofs.tests.change_often.Given as goal

abbrev pub ghosts-issue_count : goal.ghosts-issue_count
ghosts-issue_count g a = record { line = a.count }

abbrev pub ghosts-set_count : goal.ghosts-set_count
ghosts-set_count g a = record { line = a.count }
