use Rattle.std.proofs.Common.{◌≡◌, ◌++◌, drop}
use Rattle.fmp_searching.specs.Seen.{forbidding}
use Rattle.fmp_searching.proofs.call_sentences.forbidding.Given as goal

abbrev pub invariant-loop-place : goal.invariant-loop-place
invariant-loop-place l =
    l.places.items ++ forbidding l.line l.answer l.place (drop l.place l.sentences)
    ≡ forbidding l.line l.answer 0 l.sentences
