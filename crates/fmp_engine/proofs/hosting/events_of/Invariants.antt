-- The events so far are copied.
use Rattle.std.proofs.Common.{◌≡◌, ◌≤◌, length, take, vec_capacity}
use Rattle.fmp_engine.proofs.hosting.events_of.Given as goal

abbrev pub invariant-loop-i : goal.invariant-loop-i
invariant-loop-i l =
    record {
      copied : l.events.items ≡ take l.i l.closed.events;
      count : length l.events.items ≡ l.i;
      room : length l.closed.events ≤ vec_capacity l.events;
    }
