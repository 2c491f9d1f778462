use Rattle.std.proofs.Common.{◌≡◌, ◌++◌, drop, length, map}
use Rattle.fmp_frames.specs.CallPositions.{calls_of}
use Rattle.fmp_frames.proofs.call_positions.text_counts.Given as goal

abbrev pub invariant-loop-body : goal.invariant-loop-body
invariant-loop-body l =
    l.counts.items ++ map length (map calls_of (drop l.body-index l.bodies)) ≡ map length (map calls_of l.bodies)
