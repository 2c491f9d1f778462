use Rattle.std.proofs.Common.{◌≡◌, drop}
use Rattle.fmp_cfgparse.specs.Apis.{is_defined}
use Rattle.fmp_cfgparse.proofs.making.is_defined.Given as goal

abbrev pub invariant-loop-interrupt : goal.invariant-loop-interrupt
invariant-loop-interrupt l = is_defined (drop l.interrupt-index l.interrupts) l.number
    ≡ is_defined l.interrupts l.number
