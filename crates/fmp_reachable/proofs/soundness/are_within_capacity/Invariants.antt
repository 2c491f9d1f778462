use Rattle.std.proofs.Common.{◌<◌, ◌≤◌, ℕ, length}
use Rattle.fmp_base.specs.DataQueueCalls.{words_at}
use Rattle.fmp_base.specs.Systems.{data_queue_config}
use Rattle.fmp_reachable.proofs.soundness.are_within_capacity.Given as goal

abbrev pub invariant-loop-d : goal.invariant-loop-d
invariant-loop-d l =
    (e : ℕ) → e < l.d → length (words_at l.tables.state e) ≤ (data_queue_config l.tables.system e).capacity
