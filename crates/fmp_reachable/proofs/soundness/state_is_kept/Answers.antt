use Rattle.std.proofs.Common.{arith}
use Rattle.fmp_reachable.proofs.soundness.state_is_kept.Goals as goal

pub returns : goal.returns
returns c =
    record {
      distinct = c.order_is_standing.ensures.distinct;
      standing = c.order_is_standing.ensures.standing;
      deadlines = c.times_lie_ahead.ensures.deadlines;
      due_times = c.times_lie_ahead.ensures.due_times;
      disjoint = c.mailboxes_are_disjoint.ensures;
      once =
          λ x l. c.mailboxes_have_each_once.ensures x
          (omega (arith, l, c.mailbox_count.ensures.state, c.mailbox_count.ensures.system));
      sizes = c.sizes_are_those_of_the_system.ensures;
      interrupts = c.interrupts_are_all_there.ensures;
    }
