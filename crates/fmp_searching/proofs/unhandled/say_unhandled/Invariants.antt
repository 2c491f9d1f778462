use Rattle.fmp_searching.specs.Deeds.{SaysOnly}
use Rattle.fmp_searching.proofs.unhandled.say_unhandled.Given as goal

abbrev pub invariant-loop-limit : goal.invariant-loop-limit
invariant-loop-limit g l = SaysOnly (g.O.Outside.done l.initial.outside) (g.O.Outside.done l.outside)
