use Rattle.fmp_server.specs.Messages.{Adds}
use Rattle.fmp_server.proofs.sayings.say_made.Given as goal

abbrev pub invariant-loop-field : goal.invariant-loop-field
invariant-loop-field l = Adds l.initial.out.items l.out.items
