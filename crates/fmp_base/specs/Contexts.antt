-- What holds of a context from which a body goes on, and stretches that leave their context in place.
use Rattle.std.specs.Prelude.{Some, None}
use Rattle.fmp_base.specs.Stretches.{Ending}
use Rattle.fmp_base.specs.Stretches as ends
use Rattle.fmp_base.specs.declared.stop.StretchStop.{StretchStop}
use Rattle.fmp_base.specs.declared.stop.StretchStop.TheVariants as stop

-- P holds of the context with which a stretch makes a call, or which it hands over at its bound
abbrev pub OfCall : {C : Type 0} → (C → Type 0) → Ending C → Type 0
OfCall P (ends.Call c made) = P c
OfCall P (ends.End c) = Unit {0}
OfCall P (ends.Fault c fault) = Unit {0}
OfCall P (ends.Over None) = Unit {0}
OfCall P (ends.Over (Some c)) = P c

-- the ending of a stretch, given how it stops and the context that it leaves
abbrev pub stopped : {C : Type 0} → StretchStop → C → Ending C
stopped (stop.Call made) c = ends.Call c made
stopped stop.End c = ends.End c
stopped (stop.Fault fault) c = ends.Fault c fault
stopped stop.Over c = ends.Over (Some c)
