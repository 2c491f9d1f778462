use Rattle.std.proofs.Common.{◌≡◌, take}
use Rattle.fmp_schedules.specs.Monitors.{is_any_broken_in}
use Rattle.fmp_explore.proofs.notes.Notes.note_state.Given as goal

abbrev pub invariant-loop-number : goal.invariant-loop-number
invariant-loop-number l = l.found ≡ is_any_broken_in (take l.number l.monitors) l.state.state
