use Rattle.std.proofs.Common.{◌≡◌, ◌++◌, drop}
use Rattle.std.specs.List.{flat_map}
use Rattle.fmp_searching.specs.Limits.{subject_text}
use Rattle.fmp_searching.proofs.limits.append_limits.Given as goal

abbrev pub invariant-loop-monitor : goal.invariant-loop-monitor
invariant-loop-monitor l =
    l.out.items ++ flat_map (λ m. subject_text m.subject) (drop l.monitor-index l.monitors)
    ≡ l.initial.out.items ++ flat_map (λ m. subject_text m.subject) l.monitors
