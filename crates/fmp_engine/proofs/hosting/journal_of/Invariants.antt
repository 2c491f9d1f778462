use Rattle.fmp_engine.proofs.hosting.journal_of.Given as goal

-- the board that was just made
abbrev pub ghosts-run_board : goal.ghosts-run_board
ghosts-run_board g a = record { image = a.blank.image; bound = a.blank.bound; row_id = a.blank.row }
