use Rattle.std.proofs.Common.{◌≡◌, ◌++◌, drop, map}
use Rattle.fmp_looking.proofs.rates.usual_rates.Given as goal

abbrev pub invariant-loop-interrupt : goal.invariant-loop-interrupt
invariant-loop-interrupt l =
    l.rates.items
    ++ map (λ x. record { interrupt = x.number; every = 50 }) (drop l.interrupt-index l.sys.interrupts.items)
    ≡ map (λ x. record { interrupt = x.number; every = 50 }) l.sys.interrupts.items
