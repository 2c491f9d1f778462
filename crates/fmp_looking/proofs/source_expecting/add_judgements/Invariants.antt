use Rattle.std.proofs.Common.{◌≡◌, ◌++◌, [], drop, map}
use Rattle.fmp_replay.specs.Replays.{kernel_after}
use Rattle.fmp_looking.specs.Judgements.{judged_by_call}
use Rattle.fmp_looking.specs.CallSentences.{judge_of}
use Rattle.fmp_looking.proofs.source_expecting.add_judgements.Given as goal

abbrev pub invariant-loop-sentence : goal.invariant-loop-sentence
invariant-loop-sentence l =
    l.all.items
    ++ map
    (judged_by_call (kernel_after l.opened.image.now l.opened.bound []) (judge_of l.opened.image.now) l.events
    l.sentences.nevers.items) (drop l.sentence-index l.sentences.of_calls.items)
    ≡ l.initial.all.items
    ++ map
    (judged_by_call (kernel_after l.opened.image.now l.opened.bound []) (judge_of l.opened.image.now) l.events
    l.sentences.nevers.items) l.sentences.of_calls.items
