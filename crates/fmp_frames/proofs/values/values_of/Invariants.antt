use Rattle.std.proofs.Common.{◌≡◌, take}
use Rattle.fmp_frames.specs.Frames.{table_of}
use Rattle.fmp_frames.specs.Values.{values_of}
use Rattle.fmp_frames.proofs.values.values_of.Given as goal

abbrev pub invariant-loop-variable : goal.invariant-loop-variable
invariant-loop-variable l =
    l.values.items ≡ values_of (table_of l.frame) (take l.variable-index l.variables)
