-- What follows for a system in range.
use Rattle.std.proofs.Common.{◌≡◌, ◌≤◌, ◌+◌, ℕ, List, [], ◌∷◌, None, false, nat_eq, arith, refl}
use Rattle.std.proofs.lemmas.Bool.Decides.{nat_tests}
use Rattle.std.specs.List.{AllByRecursion}
use Rattle.fmp_base.specs.declared.systems.InterruptConfig.{InterruptConfig}
use Rattle.fmp_base.specs.Ranges.{InterruptInRange, IsInRange}
use Rattle.fmp_base.specs.Systems.{SystemTables, defined_for, interrupt_config}

apart : (a b : ℕ) → a ≤ 32 → 32 ≤ b → nat_eq a (b + 1) ≡ false
apart a b h k = grind (arith, nat_tests, h, k)

none_for : (processors i : ℕ) (rows : List InterruptConfig) → 32 ≤ i → AllByRecursion (InterruptInRange processors) rows
    → defined_for (i + 1) rows ≡ None
none_for processors i [] h k = refl
none_for processors i (c ∷ rows) h k = rw (apart c.number i k.0.number.most h) (none_for processors i rows h k.1)

-- no interrupt has a number above 32
pub no_interrupt_beyond : (sys : SystemTables) (i : ℕ) → IsInRange sys → 32 ≤ i → interrupt_config sys i ≡ None
no_interrupt_beyond sys i h k = none_for sys.processors i sys.interrupts k h.interrupts.each
