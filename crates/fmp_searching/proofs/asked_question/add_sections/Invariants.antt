use Rattle.std.proofs.Common.{◌≡◌, ◌++◌, drop, map}
use Rattle.fmp_searching.specs.Questions.{monitor_of_section}
use Rattle.fmp_searching.proofs.asked_question.add_sections.Given as goal

abbrev pub invariant-loop-section : goal.invariant-loop-section
invariant-loop-section l =
    l.monitors.items ++ map (λ s. monitor_of_section s) (drop l.section-index l.sections)
    ≡ l.initial.monitors.items ++ map (λ s. monitor_of_section s) l.sections
