use Rattle.fmp_searching.specs.Deeds.{TellsOnly}
use Rattle.fmp_view.proofs.targeting.say_objects.Given as goal

abbrev pub invariant-loop-name : goal.invariant-loop-name
invariant-loop-name g l = TellsOnly (g.O.Outside.done l.initial.outside) (g.O.Outside.done l.outside)
