-- Which processors may have something to settle.
use Rattle.std.specs.Prelude.{◌≡◌, ℕ, ◌<◌, List, Bool, true, false, None, length, slice_index_or}
use Rattle.fmp_base.specs.declared.states.Processor.{Processor}
use Rattle.fmp_base.specs.Settles.{is_same_task}
use Rattle.fmp_ready.specs.ReadyLists.{most_urgent}
use Rattle.fmp_ring.specs.RingLists.{RingLists}
use Rattle.fmp_spin.specs.Pending.{PendingMarks, first_handler}
use Rattle.fmp_spin.specs.Processors.{processor_in}

-- no handler is pending on p, and it runs its most urgent ready task
pub record IsAtRest (cpus : List Processor) (rings : RingLists) (pending : PendingMarks) (p : ℕ) : Type 0 where
  pub none : first_handler pending p ≡ None
  pub same : is_same_task (processor_in cpus p).run (most_urgent rings p) ≡ true

-- each processor that is not marked is at rest
pub record AreAtRest (marked : List Bool) (cpus : List Processor) (rings : RingLists) (pending : PendingMarks)
    : Type 0 where
  pub each : (p : ℕ) → p < length cpus → slice_index_or marked p true ≡ false → IsAtRest cpus rings pending p
