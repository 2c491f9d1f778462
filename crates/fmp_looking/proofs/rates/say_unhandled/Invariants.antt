use Rattle.fmp_looking.specs.TestDeeds.{SaysSome}
use Rattle.fmp_looking.proofs.rates.say_unhandled.Given as goal

abbrev pub invariant-loop-rate : goal.invariant-loop-rate
invariant-loop-rate g l = SaysSome (g.O.Outside.done l.initial.outside) (g.O.Outside.done l.outside)
