use Rattle.std.proofs.Common.{◌≡◌, ◌-◌, drop, length}
use Rattle.fmp_export.specs.Sources.{landmark_in}
use Rattle.fmp_export.proofs.source.landmark_from.Given as goal

abbrev pub invariant-loop-place : goal.invariant-loop-place
invariant-loop-place l =
    landmark_in l.landmark (drop l.place l.source.tokens.items)
    ≡ landmark_in l.landmark (drop l.at l.source.tokens.items)

abbrev pub decreases-loop-place : goal.decreases-loop-place
decreases-loop-place l = length l.source.tokens.items - l.place
