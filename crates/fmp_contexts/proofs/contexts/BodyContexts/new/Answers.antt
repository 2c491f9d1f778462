use Rattle.fmp_contexts.proofs.ContextLemmas.{first_fits}
use Rattle.fmp_contexts.proofs.contexts.BodyContexts.new.Goals as goal

pub returns-clause-fitting : goal.returns-clause-fitting
returns-clause-fitting g c = rw c.in_ok-handlers.ensures (first_fits _ _ c.in_ok-tasks.ensures.fits)
