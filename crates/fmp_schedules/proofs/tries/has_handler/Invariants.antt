use Rattle.std.proofs.Common.{◌≡◌, drop}
use Rattle.fmp_base.specs.Systems.{defined_for}
use Rattle.fmp_schedules.proofs.tries.has_handler.Given as goal

abbrev pub invariant-loop-config : goal.invariant-loop-config
invariant-loop-config l = defined_for l.number (drop l.config-index l.sys.interrupts.items)
    ≡ defined_for l.number l.sys.interrupts.items
