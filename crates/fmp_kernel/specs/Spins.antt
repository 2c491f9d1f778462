-- Processors that hold spin locks.
use Rattle.std.specs.Prelude.{◌≡◌, ℕ, ◌<◌, Bool, true, false}
use Rattle.fmp_base.specs.declared.states.Lock.{Lock}
use Rattle.fmp_base.specs.declared.states.Lock.TheVariants.{Free, Cpu, Spin}
use Rattle.fmp_base.specs.States.{KernelState, processor_at}

abbrev pub is_spin : Lock → Bool
is_spin Free = false
is_spin Cpu = false
is_spin (Spin l) = true

-- the first n processors hold none
abbrev pub HoldNone : KernelState → ℕ → Type 0
HoldNone s n = (p : ℕ) → p < n → is_spin (processor_at s p).lock ≡ false
