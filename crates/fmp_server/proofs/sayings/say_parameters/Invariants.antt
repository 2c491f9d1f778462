use Rattle.fmp_server.specs.Messages.{Adds}
use Rattle.fmp_server.proofs.sayings.say_parameters.Given as goal

abbrev pub invariant-loop-parameter : goal.invariant-loop-parameter
invariant-loop-parameter l = Adds l.initial.out.items l.out.items
