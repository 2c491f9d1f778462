use Rattle.std.proofs.Common.{◌≡◌, ◌++◌, ◌+◌, drop, map}
use Rattle.fmp_searching.specs.Tests.{sentence_kinds}
use Rattle.fmp_searching.proofs.test_reports.asked_sentences.Given as goal

abbrev pub invariant-loop-i : goal.invariant-loop-i
invariant-loop-i l =
    map (λ t. t.kind) l.asked.items
    ++ sentence_kinds l.sources.sentences.call_sentences.now (l.sections + l.i) l.last (drop l.i l.expected)
    ≡ sentence_kinds l.sources.sentences.call_sentences.now l.sections 0 l.expected
