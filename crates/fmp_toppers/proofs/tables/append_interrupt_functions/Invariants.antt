use Rattle.std.proofs.Common.{◌≡◌, ◌++◌, drop, map}
use Rattle.fmp_tasklang.specs.Views.{body_view}
use Rattle.fmp_toppers.specs.Declarations.{interrupt_function}
use Rattle.fmp_toppers.specs.Lines.{lines}
use Rattle.fmp_toppers.proofs.tables.append_interrupt_functions.Given as goal

abbrev pub invariant-loop-interrupt : goal.invariant-loop-interrupt
invariant-loop-interrupt l =
    l.out.items ++ lines (interrupt_function (map body_view l.bodies)) (drop l.interrupt-index l.interrupts)
    ≡ l.initial.out.items ++ lines (interrupt_function (map body_view l.bodies)) l.interrupts
