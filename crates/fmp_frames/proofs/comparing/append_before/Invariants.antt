use Rattle.std.proofs.Common.{◌≡◌, ◌++◌, ◌-◌}
use Rattle.fmp_frames.specs.Compares.{events_shown}
use Rattle.fmp_frames.proofs.comparing.append_before.Given as goal

abbrev pub invariant-loop-before : goal.invariant-loop-before
invariant-loop-before l =
    l.out.items ++ events_shown l.told l.before (l.number - l.before)
    ≡ l.initial.out.items ++ events_shown l.told (l.number - 5) (l.number - (l.number - 5))
