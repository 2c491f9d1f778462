use Rattle.std.proofs.Common.{◌≡◌, ◌++◌, drop, map}
use Rattle.fmp_looking.specs.CallSentences.{never_of}
use Rattle.fmp_looking.proofs.call_sentences.add_calls.Given as goal

abbrev pub invariant-loop-site : goal.invariant-loop-site
invariant-loop-site l =
    l.nevers.items ++ map (λ s. never_of l.sentence s) (drop l.site-index l.sites)
    ≡ l.initial.nevers.items ++ map (λ s. never_of l.sentence s) l.sites
