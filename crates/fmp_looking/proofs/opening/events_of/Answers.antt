use Rattle.fmp_engine.proofs.StepLemmas.{few_events}
use Rattle.fmp_looking.proofs.opening.events_of.Goals as goal

pub returns-in-Ok-clause-few : goal.returns-in-Ok-clause-few
returns-in-Ok-clause-few c = few_events c.args.processors c.args.text.now _ c.in-Ok.ensures.ok
