use Rattle.fmp_drawing.specs.Lanes.{KeepsStack}
use Rattle.fmp_drawing.proofs.strips.Strips.add_cyclics.Given as goal

abbrev pub invariant-loop-place : goal.invariant-loop-place
invariant-loop-place l =
    KeepsStack l.initial.self.strips.items l.initial.self.bottom l.self.strips.items l.self.bottom
