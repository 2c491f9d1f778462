-- What a release does to the wait queues: the task leaves its queue, and the others stay in their order.
use Rattle.std.proofs.Common.{◌≡◌, ℕ, ◌<◌, List, None, Bool, true, false, nat_eq, length, refl, ap, ◌∙◌}
use Rattle.std.specs.Prelude.{slice_set}
use Rattle.fmp_base.specs.declared.states.Phase.TheVariants.{Ready}
use Rattle.fmp_base.specs.declared.states.TaskBlock.{TaskBlock}
use Rattle.fmp_base.specs.declared.states.WaitQueue.{WaitQueue}
use Rattle.fmp_base.specs.Changes.{released_state}
use Rattle.fmp_base.specs.Queues.{order_of, priority_in, waits_in, wait_queue}
use Rattle.fmp_base.specs.States.{KernelState, task_at, without, with_last, with_removed}
use Rattle.fmp_base.specs.Systems.{SystemTables}
use Rattle.fmp_tasks.specs.KeptLaws.{arranged-without, arranged-last, task-other, task-same, priority-other}

waits-other : (q : WaitQueue) (xs : List TaskBlock) (t : ℕ) (y : TaskBlock) (u : ℕ) → nat_eq u t ≡ false
    → waits_in q (task_at (slice_set xs t y) u) ≡ waits_in q (task_at xs u)
waits-other q xs t y u e = ap (waits_in q) (task-other xs t u y e)

wait_queue-left : (sys : SystemTables) (s : KernelState) (q : WaitQueue) (t : ℕ) (y : TaskBlock)
    → wait_queue sys (with_removed s t y) q ≡ without (wait_queue sys s q) t
wait_queue-left sys s q t y =
    arranged-without (order_of sys q) (λ u. waits_in q (task_at s.tasks u))
    (λ u. waits_in q (task_at (slice_set s.tasks t y) u))
    (priority_in s.tasks) (priority_in (slice_set s.tasks t y)) t s.order (waits-other q s.tasks t y)
    (priority-other s.tasks t y)

wait_queue-last : (sys : SystemTables) (s : KernelState) (q : WaitQueue) (t : ℕ) (y : TaskBlock) → t < length s.tasks
    → waits_in q y ≡ false
    → wait_queue sys (with_last s t y) q ≡ without (wait_queue sys s q) t
wait_queue-last sys s q t y l e =
    let gone : waits_in q (task_at (slice_set s.tasks t y) t) ≡ false = ap (waits_in q) (task-same s.tasks t y l) ∙ e in
    let k = arranged-last (order_of sys q) (λ u. waits_in q (task_at s.tasks u))
    (λ u. waits_in q (task_at (slice_set s.tasks t y) u))
    (priority_in s.tasks) (priority_in (slice_set s.tasks t y)) t s.order (waits-other q s.tasks t y)
    (priority-other s.tasks t y) in
    rw gone at k

-- the queue after the release of task t, which is x
pub wait_queue-released : (sys : SystemTables) (s : KernelState) (q : WaitQueue) (t : ℕ) (x : TaskBlock)
    → t < length s.tasks
    → wait_queue sys (released_state x.suspended s t (record x { phase = Ready; deadline = None })) q
    ≡ without (wait_queue sys s q) t
wait_queue-released sys s q t x l = by_test x.suspended where
  by_test : (b : Bool)
      → wait_queue sys (released_state b s t (record x { phase = Ready; deadline = None })) q
      ≡ without (wait_queue sys s q) t
  by_test true = wait_queue-left sys s q t (record x { phase = Ready; deadline = None })
  by_test false = wait_queue-last sys s q t (record x { phase = Ready; deadline = None }) l refl
