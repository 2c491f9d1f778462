use Rattle.std.proofs.Common.{◌≡◌, take}
use Rattle.fmp_schedules.specs.Schedules.{is_any_broken}
use Rattle.fmp_explore.proofs.notes.Notes.note_breaches.Given as goal

abbrev pub invariant-loop-number : goal.invariant-loop-number
invariant-loop-number l = l.found ≡ is_any_broken (take l.number l.monitors) l.lines
