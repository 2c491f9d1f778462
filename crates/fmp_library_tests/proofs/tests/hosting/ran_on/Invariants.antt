use Rattle.fmp_library_tests.proofs.tests.hosting.ran_on.Given as goal

-- the board that was just made
abbrev pub ghosts-run : goal.ghosts-run
ghosts-run g a = record { image = a.blank.image; bound = a.blank.bound; row_id = a.blank.row }
