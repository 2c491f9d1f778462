use Rattle.std.proofs.Common.{◌≡◌, ◌++◌, drop}
use Rattle.fmp_frames.specs.CallPositions.{call_positions}
use Rattle.fmp_frames.proofs.call_positions.calls_after.Given as goal

abbrev pub invariant-loop-at : goal.invariant-loop-at
invariant-loop-at l =
    l.calls.items ++ call_positions l.text.begins.now (drop l.at l.text.tokens.now)
    ≡ call_positions l.text.begins.now (drop l.start l.text.tokens.now)
