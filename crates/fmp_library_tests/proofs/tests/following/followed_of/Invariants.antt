use Rattle.fmp_library_tests.proofs.tests.following.followed_of.Given as goal

-- the board that was just made
abbrev pub ghosts-followed_on : goal.ghosts-followed_on
ghosts-followed_on g a = record { image = a.blank.image; bound = a.blank.bound; row_id = a.blank.row }
