use Rattle.std.proofs.Common.{◌≡◌, ◌≤◌, ◌<◌, ◌+◌, [], length, vec_len, vec_capacity}
use Rattle.fmp_base.specs.declared.states.WaitQueue.TheVariants.{Flag}
use Rattle.fmp_base.specs.FlagCalls.{walk}
use Rattle.fmp_base.specs.Queues.{wait_queue}
use Rattle.fmp_ring.specs.RingLists.{from_node}
use Rattle.fmp_tasks.specs.Tables.{progress, SameShape}
use Rattle.fmp_objects.proofs.WalkLemmas.{Reached}
use Rattle.fmp_objects.proofs.walking.walk.Given as goal

-- the walk over the tasks from this one on comes to what the whole walk does; the lines have room for all of them
abbrev pub invariant-loop-at : goal.invariant-loop-at
invariant-loop-at l =
    let waiting = wait_queue l.tables.system l.tables.state (Flag l.f) in
    let waited = wait_queue l.fn.tables.system l.fn.tables.state (Flag l.f) in
    record {
      progress : walk l.clears l.f l.bits (from_node l.at waiting) (progress l.tables l.lines.items)
          ≡ walk l.clears l.f l.bits waited (progress l.fn.tables []);
      reached : Reached l.at waiting;
      shape : SameShape l.fn.tables l.tables;
      room : 0 < vec_len l.lines → vec_len l.lines + length (from_node l.at waiting) ≤ vec_capacity l.lines;
      capacity : vec_capacity l.lines ≡ vec_capacity l.fn.lines;
    }

abbrev pub decreases-loop-at : goal.decreases-loop-at
decreases-loop-at l = length (from_node l.at (wait_queue l.tables.system l.tables.state (Flag l.f)))
