-- How a stretch of a body ends.
use Rattle.std.specs.Prelude.{Option, Some, Bool, true, false}
use Rattle.fmp_base.specs.declared.bodies.Fault as faults
use Rattle.fmp_base.specs.declared.bodies.Stretch.{Stretch}
use Rattle.fmp_base.specs.declared.bodies.Stretch.TheVariants as made
use Rattle.fmp_base.specs.declared.calls.Call as calls

-- with a call, its end or a fault, and the context that it leaves; or over its bound, where it may hand over the
-- context that it has come to
pub data Ending (C : Type 0) : Type 0 where
  Call : C → calls.Call → Ending C
  End : C → Ending C
  Fault : C → faults.Fault → Ending C
  Over : Option C → Ending C

-- the ending that a stretch is
abbrev pub ending : {C : Type 0} → Stretch C → Ending C
ending (made.Call c call) = Call c call
ending (made.End c) = End c
ending (made.Fault c fault) = Fault c fault
ending (made.Over c) = Over (Some c)

-- whether a stretch needs more than its bound
abbrev pub is_over : {C : Type 0} → Ending C → Bool
is_over (Call c call) = false
is_over (End c) = false
is_over (Fault c fault) = false
is_over (Over kept) = true
