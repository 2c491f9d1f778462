use Rattle.std.proofs.Common.{◌≡◌, ◌+◌, drop}
use Rattle.fmp_base.specs.Systems.{defined_for}
use Rattle.fmp_slices.proofs.labels.interrupt_at.Given as goal

abbrev pub invariant-loop-config : goal.invariant-loop-config
invariant-loop-config l =
    defined_for (l.fn.place + 1) (drop l.config-index l.fn.sys.interrupts.items)
    ≡ defined_for (l.fn.place + 1) l.fn.sys.interrupts.items
