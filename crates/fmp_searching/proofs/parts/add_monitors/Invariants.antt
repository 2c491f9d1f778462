use Rattle.std.proofs.Common.{◌≡◌, ◌++◌, drop, map}
use Rattle.std.specs.List.{flat_map}
use Rattle.fmp_base.specs.Systems.{tables_of}
use Rattle.fmp_searching.specs.Parts.{part_of}
use Rattle.fmp_searching.specs.Sentences.{subject_text}
use Rattle.fmp_searching.proofs.parts.add_monitors.Given as goal

abbrev pub invariant-loop-monitor : goal.invariant-loop-monitor
invariant-loop-monitor l =
    map (λ p. p.items) l.parts.items
    ++ flat_map (λ m. part_of (subject_text (tables_of l.sys) m.subject)) (drop l.monitor-index l.monitors)
    ≡ map (λ p. p.items) l.initial.parts.items
    ++ flat_map (λ m. part_of (subject_text (tables_of l.sys) m.subject)) l.monitors
