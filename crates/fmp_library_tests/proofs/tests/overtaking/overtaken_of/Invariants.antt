use Rattle.fmp_library_tests.proofs.tests.overtaking.overtaken_of.Given as goal

-- the board that was just made
abbrev pub ghosts-overtaken_on : goal.ghosts-overtaken_on
ghosts-overtaken_on g a = record { image = a.blank.image; bound = a.blank.bound; row_id = a.blank.row }
