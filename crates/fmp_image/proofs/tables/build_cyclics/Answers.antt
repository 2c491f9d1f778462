use Rattle.std.proofs.Common.{arith}
use Rattle.fmp_image.proofs.RowLoops.{cyclic_row}
use Rattle.fmp_image.proofs.tables.build_cyclics.Goals as goal

pub loop-cyclic-preserved : goal.loop-cyclic-preserved
loop-cyclic-preserved c = λ bodies are.
    cyclic_row bodies c.args.cyclics.now c.loop-cyclic.cyclics c.loop-cyclic.cyclic-index c.built_entry-cyclic.result
    c.loop-cyclic-test.true (omega arith) (c.loop-cyclic.invariant bodies are) (c.built_entry-cyclic.ensures bodies are)
