use Rattle.std.proofs.Common.{ℕ, ◌≤◌, List, length, arith}
use Rattle.fmp_base.specs.MailboxCalls.{behind_equals}
use Rattle.fmp_base.specs.Queues.{priority_in}
use Rattle.fmp_base.specs.States.{without}
use Rattle.fmp_waitq.specs.WaitLists.{queue_at}
use Rattle.fmp_waitq.proofs.ReorderLemmas.{written-twice, shorter-left}
use Rattle.fmp_waitq.proofs.queues.WaitQueues.reorder.Goals as goal

pub returns-clause-rings : goal.returns-clause-rings
returns-clause-rings c =
    rw (c.join.ensures.rings, c.leave.ensures.rings)
    (written-twice _ _ _ (λ (l : List ℕ). without l c.args.t) (behind_equals (priority_in c.args.blocks.now) c.args.t)
    c.requires.lent c.requires.queue)

pub returns-clause-steps : goal.returns-clause-steps
returns-clause-steps c =
    let shorter : length (queue_at c.args.self c.leave.new.rings c.args.queue) ≤ length
    (queue_at c.args.self c.args.rings.now c.args.queue) =
    rw c.leave.ensures.rings (shorter-left _ _ _ c.args.t c.requires.lent c.requires.queue) in
    let left = c.leave.ensures.steps in
    let joined = c.join.ensures.steps in
    (omega arith, omega arith)
