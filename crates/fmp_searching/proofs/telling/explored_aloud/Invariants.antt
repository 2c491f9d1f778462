use Rattle.fmp_searching.proofs.telling.explored_aloud.Given as goal

abbrev pub ghosts-explored_from : goal.ghosts-explored_from
ghosts-explored_from g a = record { name = a.outside.ghost_name; done = g.O.Outside.done a.outside.now }
