use Rattle.std.proofs.Common.{◌≡◌, ◌++◌, drop, map}
use Rattle.fmp_frames.specs.CallPositions.{bodies_in, text_body}
use Rattle.fmp_frames.proofs.call_positions.bodies_in.Given as goal

abbrev pub invariant-loop-at : goal.invariant-loop-at
invariant-loop-at l =
    map text_body l.bodies.items ++ bodies_in l.text.begins.now (drop l.at l.text.tokens.now)
    ≡ bodies_in l.text.begins.now l.text.tokens.now
