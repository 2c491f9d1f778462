-- A kernel whose counts begin again.
use Rattle.std.specs.Prelude.{replicate}
use Rattle.fmp_base.specs.Meanings.{World}
use Rattle.fmp_kernel.specs.KernelViews.{KernelView}
use Rattle.fmp_tasks.specs.Restarts.{clock_restarted}

-- the same with a clock that begins again at 0
abbrev pub clock_restarted_in : {C : Type 0} → World C → World C
clock_restarted_in w = record w { state = clock_restarted w.state }

-- the clock, the counts of events and the stamps are 0; nothing else changes
abbrev pub counts_restarted : {B C : Type 0} → KernelView B C → KernelView B C
counts_restarted k =
    record k {
      world = clock_restarted_in k.world;
      done = 0;
      taken = 0;
      stamps = replicate k.system.processors 0;
    }
