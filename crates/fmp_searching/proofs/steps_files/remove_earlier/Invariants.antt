use Rattle.fmp_searching.specs.Files.{RemovesSteps}
use Rattle.fmp_searching.proofs.steps_files.remove_earlier.Given as goal

abbrev pub invariant-loop-i : goal.invariant-loop-i
invariant-loop-i g l =
    RemovesSteps l.files.exploring.now l.files.out.now l.files.count (g.O.Outside.done l.initial.outside)
    (g.O.Outside.done l.outside)
