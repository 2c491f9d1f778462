use Rattle.std.proofs.Common.{◌≡◌, true}
use Rattle.fmp_ring.specs.PlaceLaws.{Walked-in, Walked-step}
use Rattle.fmp_ring.specs.RingLists.{is_in}
use Rattle.fmp_waitq.specs.WaitLists.{head, queue_at}
use Rattle.fmp_waitq.proofs.queues.WaitQueues.join_behind.Goals as goal

pub place_from-requires-clause-walked : goal.place_from-requires-clause-walked
place_from-requires-clause-walked c =
    let there : is_in c.args.other (queue_at c.args.self c.args.rings.now c.args.queue)
    ≡ true = Walked-in _ _ _ _ c.requires.behind in
    rw c.head_of-head.ensures (Walked-step _ _ _ _ _ _ c.requires.order c.requires.behind c.requires.urgent
    (c.next-start.ensures.value (head c.args.self c.args.queue) there))
