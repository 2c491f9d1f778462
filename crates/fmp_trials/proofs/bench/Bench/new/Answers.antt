use Rattle.fmp_trials.proofs.bench.Bench.new.Goals as goal

pub invariant_of-result : goal.invariant_of-result
invariant_of-result g c = (c.requires.beside, c.requires.taken)
