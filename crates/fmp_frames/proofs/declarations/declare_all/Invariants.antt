use Rattle.std.proofs.Common.{◌≡◌, ◌++◌, drop}
use Rattle.fmp_frames.specs.Declarations.{shown}
use Rattle.fmp_frames.proofs.declarations.declare_all.Given as goal

abbrev pub invariant-loop-variable : goal.invariant-loop-variable
invariant-loop-variable l =
    l.out.items ++ shown (drop l.variable-index l.variables) ≡ l.initial.out.items ++ shown l.variables
