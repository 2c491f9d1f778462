use Rattle.std.proofs.Common.{◌≡◌, ◌++◌, drop, map}
use Rattle.fmp_searching.specs.Tests.{section_kinds}
use Rattle.fmp_searching.proofs.test_reports.add_asked_sections.Given as goal

abbrev pub invariant-loop-place : goal.invariant-loop-place
invariant-loop-place l =
    map (λ t. t.kind) l.asked.items
    ++ section_kinds l.sources.sentences.sections l.place (drop l.place l.monitors.items)
    ≡ map (λ t. t.kind) l.initial.asked.items ++ section_kinds l.sources.sentences.sections 0 l.monitors.items
