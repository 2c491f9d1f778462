-- What the axis of a panel shows of an event.
use Rattle.std.specs.Prelude.{ℕ, zero, suc, ◌+◌, List, [], Option, None, Some, codes, if◌then◌else◌, nat_le, slice_get}
use Rattle.fmp_timeline.specs.declared.run.Note.{Note}
use Rattle.fmp_timeline.specs.declared.run.Run.{Run}

-- one event of this many has a grid line, by the width of a column
abbrev pub step_of : (column : ℕ) → ℕ
step_of column =
    if nat_le 20 column then 1
    else if nat_le 10 column then 5
    else if nat_le 5 column then 10
    else 20

-- the badge of an interrupt has its number
abbrev pub interrupt_badge : Option ℕ → Option (List ℕ × ℕ)
interrupt_badge None = None
interrupt_badge (Some place) = Some (codes "#", place + 1)

-- that of a tick has the clock after it
abbrev pub badge_of : Note → Option (List ℕ × ℕ)
badge_of note = if note.ticks then Some ([], note.clock) else interrupt_badge note.interrupt

-- what is known of the event before this one
abbrev pub note_before : Run → (event : ℕ) → Option Note
note_before run zero = None
note_before run (suc before) = slice_get run.notes.items before
