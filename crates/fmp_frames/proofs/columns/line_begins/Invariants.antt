use Rattle.std.proofs.Common.{◌≡◌, ◌++◌, drop}
use Rattle.fmp_frames.specs.CallPositions.{begins_after, line_begins}
use Rattle.fmp_frames.proofs.columns.line_begins.Given as goal

abbrev pub invariant-loop-at : goal.invariant-loop-at
invariant-loop-at l = l.begins.items ++ begins_after l.at (drop l.at l.text) ≡ line_begins l.text
