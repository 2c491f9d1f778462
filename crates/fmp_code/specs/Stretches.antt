-- Tests of how a stretch ends.
use Rattle.std.specs.Prelude.{Bool, true}
use Rattle.fmp_base.specs.declared.calls.Call.{Call}
use Rattle.fmp_base.specs.Stretches.{Ending}
use Rattle.fmp_base.specs.Stretches as ends

-- whether a stretch makes no call, or one that passes the test
abbrev pub makes_only : {C : Type 0} → (Call → Bool) → Ending C → Bool
makes_only test (ends.Call c made) = test made
makes_only test (ends.End c) = true
makes_only test (ends.Fault c fault) = true
makes_only test (ends.Over kept) = true
