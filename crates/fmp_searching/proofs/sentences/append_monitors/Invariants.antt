use Rattle.std.proofs.Common.{◌≡◌, ◌++◌, drop}
use Rattle.std.specs.List.{flat_map}
use Rattle.fmp_base.specs.Systems.{tables_of}
use Rattle.fmp_searching.specs.Sentences.{subject_text}
use Rattle.fmp_searching.proofs.sentences.append_monitors.Given as goal

abbrev pub invariant-loop-monitor : goal.invariant-loop-monitor
invariant-loop-monitor l =
    l.out.items ++ flat_map (λ m. subject_text (tables_of l.sys) m.subject) (drop l.monitor-index l.monitors)
    ≡ l.initial.out.items ++ flat_map (λ m. subject_text (tables_of l.sys) m.subject) l.monitors
