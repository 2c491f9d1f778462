-- A rotation leaves the clock alone.
use Rattle.std.proofs.Common.{◌≡◌, ℕ, Option, Some, None, refl}
use Rattle.fmp_base.specs.States.{KernelState}
use Rattle.fmp_base.specs.TaskCalls.{rotated}

pub rotated_clock : (s : KernelState) (first : Option ℕ) → (rotated s first).clock ≡ s.clock
rotated_clock s None = refl
rotated_clock s (Some t) = refl
