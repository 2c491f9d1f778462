use Rattle.std.proofs.Common.{◌≡◌, ◌≤◌, [], vec_capacity}
use Rattle.fmp_journal.specs.Views.{scribe_view, new_pen}
use Rattle.fmp_journal.specs.Seats.{AreFirst}
use Rattle.fmp_journal.proofs.row.dealt_seats.Given as goal

abbrev pub invariant-loop-number : goal.invariant-loop-number
invariant-loop-number l =
    (l.scribe.table_id ≡ l.words.table_id)
    × (l.scribe.me ≡ (scribe_view (new_pen l.words.table_id.words l.count l.number), []))
    × AreFirst (record { table = l.words.table_id; capacity = l.words.table_id.words; seats = l.count })
    l.number l.seats.items
    × (l.count ≤ vec_capacity l.seats)
