use Rattle.std.proofs.Common.{◌≡◌, ◌++◌, drop, map}
use Rattle.fmp_looking.proofs.test_reports.add_call_sentences.Given as goal

abbrev pub invariant-loop-one : goal.invariant-loop-one
invariant-loop-one l =
    l.lines.items ++ map (λ p. p.line) (drop l.one-index l.sentences)
    ≡ l.initial.lines.items ++ map (λ p. p.line) l.sentences
