-- Pulses are lawful bodies, and there is one for each task and handler.
use Rattle.std.proofs.Common.{◌≡◌, ℕ, zero, suc, ◌≤◌, false, arith, refl}
use Rattle.std.specs.Prelude.{Option, None, Some}
use Rattle.fmp_base.specs.Stretches.{is_over}
use Rattle.fmp_base.specs.declared.bodies.HandlerStart.{HandlerStart}
use Rattle.fmp_base.specs.Meanings.{handler_start}
use Rattle.fmp_base.specs.Systems.{SystemTables}
use Rattle.fmp_contexts.specs.Contexts.{BeginsIn, Entered}
use Rattle.fmp_library_tests.specs.Pulses.{beat, pulse_meaning}

beat_stays : (left low high : ℕ) → low ≤ high → is_over (beat low left) ≡ false → beat high left ≡ beat low left
beat_stays left zero high l h = absurd (cc h)
beat_stays left (suc low) zero l h = absurd (omega (arith, l))
beat_stays zero (suc low) (suc high) l h = refl
beat_stays (suc left) (suc low) (suc high) l h = refl

pub pulse-stays : (beats body low high left : ℕ) → low ≤ high
    → is_over ((pulse_meaning beats).stretch body low left) ≡ false
    → (pulse_meaning beats).stretch body high left ≡ (pulse_meaning beats).stretch body low left
pulse-stays beats body low high left l h = beat_stays left low high l h

begins : (h : Option HandlerStart) → BeginsIn (λ entry. Unit {0}) h
begins None = tt
begins (Some h) = tt

pub pulses_are_there : (beats : ℕ) (sys : SystemTables) → Entered (λ pulse entry. Unit {0}) beats sys
pulses_are_there beats sys = record { tasks = λ t lt. tt; handlers = λ h. begins (handler_start sys h) }
