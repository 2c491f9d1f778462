use Rattle.std.proofs.Common.{◌≡◌, ◌<◌, ℕ, List, [], ◌∷◌, Bool, true, false, nat_eq, refl}
use Rattle.std.specs.Prelude.{IfSome}
use Rattle.std.specs.List.{AllByRecursion}
use Rattle.fmp_base.specs.declared.systems.InterruptConfig.{InterruptConfig}
use Rattle.fmp_base.specs.Ranges.{InterruptInRange}
use Rattle.fmp_base.specs.Systems.{defined_for}
use Rattle.fmp_tasks.proofs.kernel_state.KernelState.interrupt_config.Goals as goal

-- the handler that is defined for a number runs on a processor that is there
defined-below : (processors number : ℕ) (rows : List InterruptConfig)
    → AllByRecursion (InterruptInRange processors) rows
    → IfSome (defined_for number rows) (λ config. config.processor < processors)
defined-below processors number [] each = tt
defined-below processors number (i ∷ rows) each = by_test (nat_eq i.number number) refl
    (defined-below processors number rows each.1) where
      by_test : (b : Bool) → nat_eq i.number number ≡ b → IfSome (defined_for number rows)
          (λ config. config.processor < processors)
          → IfSome (defined_for number (i ∷ rows)) (λ config. config.processor < processors)
      by_test true e rest = rw e each.0.processor
      by_test false e rest = rw e rest

pub returns-clause-processor : goal.returns-clause-processor
returns-clause-processor c =
    rw (← c.self.view_is, c.handler_for.ensures, c.as_slice.ensures.value)
    (defined-below _ _ _ c.self.invariant.system.interrupts.each)
