-- The events so far are copied.
use Rattle.std.proofs.Common.{◌≡◌, ◌≤◌, length, take, vec_capacity}
use Rattle.fmp_journal.specs.Seats.{events}
use Rattle.fmp_journal.proofs.scribe.Scribe.events.Given as goal

abbrev pub invariant-loop-place : goal.invariant-loop-place
invariant-loop-place l =
    record {
      same : l.self ≡ l.fn.self;
      copied : l.room.items ≡ take l.place (events l.fn.self.journal);
      count : length l.room.items ≡ l.place;
      room : length l.fn.self.journal ≤ vec_capacity l.room;
    }
