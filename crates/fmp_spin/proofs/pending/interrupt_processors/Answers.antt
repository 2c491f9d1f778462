use Rattle.std.proofs.Common.{rules}
use Rattle.fmp_spin.proofs.NewLemmas.{next-place}
use Rattle.fmp_spin.proofs.pending.interrupt_processors.Goals as goal

pub loop-i-preserved : goal.loop-i-preserved
loop-i-preserved c =
    record {
      items = next-place _ c.loop-i.processors.items _ _ c.loop-i.i 32 _ c.loop-i-test.true c.loop-i.invariant.items
          c.push_reserved.ensures.items c.processor_for.ensures;
      long = search rules;
      room = search rules;
    }
