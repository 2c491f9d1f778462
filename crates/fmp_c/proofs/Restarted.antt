-- A system that C holds, after its counts have begun again.
use Rattle.std.proofs.Common.{◌≡◌, ℕ, IfSome, Option, Some, refl}
use Rattle.fmp_c.specs.declared.machine.Machine.{Machine}
use Rattle.fmp_c.specs.Exports.{machine_restarted}

-- what was held is held again, with its counts begun again
pub held_restarted : (before after : Option Machine) (m n : Machine) → before ≡ Some m → after ≡ Some n
    → n ≡ machine_restarted m → IfSome before (λ k. (after ≡ Some (machine_restarted k)) × (◌≡◌ {A = ℕ} 1 1))
held_restarted before after m n held again restarted = rw held (rw restarted at again, refl)
