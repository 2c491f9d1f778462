-- None of the processors so far runs it.
use Rattle.std.proofs.Common.{take}
use Rattle.std.specs.List.{Any}
use Rattle.fmp_timeline.specs.Shown.{IsRunning}
use Rattle.fmp_timeline.proofs.states.is_running.Given as goal

abbrev pub invariant-loop-processor : goal.invariant-loop-processor
invariant-loop-processor l = ¬ Any (IsRunning l.handler) (take l.processor-index l.processors)
