use Rattle.std.proofs.Common.{◌≡◌, ◌++◌, drop, map}
use Rattle.fmp_looking.specs.NamedSystems.{named_interrupt}
use Rattle.fmp_looking.proofs.named_system.named_interrupts.Given as goal

abbrev pub invariant-loop-interrupt : goal.invariant-loop-interrupt
invariant-loop-interrupt l =
    l.named.items ++ map (λ x. named_interrupt l.names x) (drop l.interrupt-index l.interrupts)
    ≡ map (λ x. named_interrupt l.names x) l.interrupts
