use Rattle.std.proofs.Common.{arith}
use Rattle.fmp_image.proofs.RowLoops.{interrupt_row}
use Rattle.fmp_image.proofs.tables.build_interrupts.Goals as goal

pub loop-interrupt-preserved : goal.loop-interrupt-preserved
loop-interrupt-preserved c = λ bodies are.
    interrupt_row bodies c.args.interrupts.now c.loop-interrupt.interrupts c.loop-interrupt.interrupt-index
    c.built_entry-interrupt.result
    c.loop-interrupt-test.true (omega arith) (c.loop-interrupt.invariant bodies are)
    (c.built_entry-interrupt.ensures bodies are)
