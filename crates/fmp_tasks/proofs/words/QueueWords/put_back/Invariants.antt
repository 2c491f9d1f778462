use Rattle.std.proofs.Common.{◌≡◌, ◌≤◌, take}
use Rattle.std.specs.VecDeque.{deque_capacity}
use Rattle.fmp_tasks.proofs.words.QueueWords.put_back.Given as goal

abbrev pub invariant-loop-i : goal.invariant-loop-i
invariant-loop-i l = record {
  items : l.self-inside.ring.items ≡ take l.i l.from-inside.ring.items;
  room : 255 ≤ deque_capacity l.self-inside.ring;
}
