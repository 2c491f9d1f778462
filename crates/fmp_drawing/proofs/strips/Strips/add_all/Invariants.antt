use Rattle.fmp_drawing.specs.Lanes.{KeepsStack}
use Rattle.fmp_drawing.proofs.strips.Strips.add_all.Given as goal

abbrev pub invariant-loop-processor : goal.invariant-loop-processor
invariant-loop-processor l =
    KeepsStack l.initial.self.strips.items l.initial.self.bottom l.self.strips.items l.self.bottom
