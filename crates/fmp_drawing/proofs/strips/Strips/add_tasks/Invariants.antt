use Rattle.fmp_drawing.specs.Lanes.{KeepsStack}
use Rattle.fmp_drawing.proofs.strips.Strips.add_tasks.Given as goal

abbrev pub invariant-loop-priority : goal.invariant-loop-priority
invariant-loop-priority l =
    KeepsStack l.initial.self.strips.items l.initial.self.bottom l.self.strips.items l.self.bottom

abbrev pub invariant-loop-task : goal.invariant-loop-task
invariant-loop-task l =
    KeepsStack l.initial.self.strips.items l.initial.self.bottom l.self.strips.items l.self.bottom
