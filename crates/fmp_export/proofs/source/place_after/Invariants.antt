use Rattle.std.proofs.Common.{◌≡◌, ◌-◌, drop, length}
use Rattle.fmp_export.specs.Sources.{place_after_in}
use Rattle.fmp_export.proofs.source.place_after.Given as goal

abbrev pub invariant-loop-place : goal.invariant-loop-place
invariant-loop-place l =
    place_after_in l.landmark l.place (drop l.place l.source.tokens.items)
    ≡ place_after_in l.landmark l.at (drop l.at l.source.tokens.items)

abbrev pub decreases-loop-place : goal.decreases-loop-place
decreases-loop-place l = length l.source.tokens.items - l.place
