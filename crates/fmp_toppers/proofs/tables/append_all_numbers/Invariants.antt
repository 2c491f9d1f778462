use Rattle.std.proofs.Common.{◌≡◌, ◌++◌, drop}
use Rattle.fmp_toppers.specs.Declarations.{interrupt_numbers}
use Rattle.fmp_toppers.specs.Lines.{lines}
use Rattle.fmp_toppers.proofs.tables.append_all_numbers.Given as goal

abbrev pub invariant-loop-interrupt : goal.invariant-loop-interrupt
invariant-loop-interrupt l =
    l.out.items ++ lines interrupt_numbers (drop l.interrupt-index l.interrupts)
    ≡ l.initial.out.items ++ lines interrupt_numbers l.interrupts
