use Rattle.std.proofs.Common.{◌≡◌, ◌++◌, drop}
use Rattle.fmp_frames.specs.Declarations.{of_each, data_queue_scope}
use Rattle.fmp_frames.proofs.declarations.declare_data_queues.Given as goal

abbrev pub invariant-loop-place : goal.invariant-loop-place
invariant-loop-place l =
    l.out.items ++ of_each data_queue_scope l.place (drop l.place l.sys.data_queues.items)
    ≡ l.initial.out.items ++ of_each data_queue_scope 0 l.sys.data_queues.items
