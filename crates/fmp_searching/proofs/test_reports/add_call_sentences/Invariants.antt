use Rattle.std.proofs.Common.{◌≡◌, ◌++◌, drop, map}
use Rattle.fmp_searching.specs.Tests.{calls_between}
use Rattle.fmp_searching.proofs.test_reports.add_call_sentences.Given as goal

abbrev pub invariant-loop-place : goal.invariant-loop-place
invariant-loop-place l =
    map (λ t. t.kind) l.asked.items ++ calls_between l.lines.after l.lines.before l.place (drop l.place l.calls)
    ≡ map (λ t. t.kind) l.initial.asked.items ++ calls_between l.lines.after l.lines.before 0 l.calls
