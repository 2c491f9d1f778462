use Rattle.std.proofs.Common.{◌≡◌, ◌++◌, drop}
use Rattle.fmp_frames.specs.Declarations.{variables_in}
use Rattle.fmp_frames.proofs.declarations.variables_in.Given as goal

abbrev pub invariant-loop-declaration : goal.invariant-loop-declaration
invariant-loop-declaration l =
    l.variables.items ++ variables_in (drop l.declaration-index l.declarations) ≡ variables_in l.declarations
