use Rattle.std.proofs.Common.{◌≡◌, ◌++◌, drop}
use Rattle.fmp_slices.specs.Resources.{interrupts_members}
use Rattle.fmp_slices.proofs.resource_file.write_interrupts.Given as goal

abbrev pub invariant-loop-interrupt : goal.invariant-loop-interrupt
invariant-loop-interrupt l =
    record {
      before : l.writer.before ≡ l.initial.writer.before;
      tokens :
          l.writer.tokens ++ interrupts_members l.fn.bodies (drop l.interrupt-index l.fn.sys.interrupts.items)
          ≡ l.initial.writer.tokens ++ interrupts_members l.fn.bodies l.fn.sys.interrupts.items;
    }
