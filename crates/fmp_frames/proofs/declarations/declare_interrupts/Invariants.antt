use Rattle.std.proofs.Common.{◌≡◌, ◌++◌, drop}
use Rattle.fmp_frames.specs.Declarations.{of_each, interrupt_scope}
use Rattle.fmp_frames.proofs.declarations.declare_interrupts.Given as goal

abbrev pub invariant-loop-config : goal.invariant-loop-config
invariant-loop-config l =
    l.out.items ++ of_each (λ place. interrupt_scope) l.config-index (drop l.config-index l.sys.interrupts.items)
    ≡ l.initial.out.items ++ of_each (λ place. interrupt_scope) 0 l.sys.interrupts.items
