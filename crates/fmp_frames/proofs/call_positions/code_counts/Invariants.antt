use Rattle.std.proofs.Common.{◌≡◌, ◌++◌, drop, map}
use Rattle.fmp_instructions.specs.Instructions.{body_tables}
use Rattle.fmp_frames.specs.CallPositions.{code_counts}
use Rattle.fmp_frames.proofs.call_positions.code_counts.Given as goal

abbrev pub invariant-loop-body : goal.invariant-loop-body
invariant-loop-body l =
    l.counts.items ++ code_counts (map body_tables (drop l.body-index l.bodies))
    ≡ code_counts (map body_tables l.bodies)
