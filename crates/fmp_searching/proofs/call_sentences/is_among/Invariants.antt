use Rattle.std.proofs.Common.{◌≡◌, drop}
use Rattle.fmp_searching.specs.Seen.{is_among}
use Rattle.fmp_searching.proofs.call_sentences.is_among.Given as goal

abbrev pub invariant-loop-never : goal.invariant-loop-never
invariant-loop-never l =
    is_among (drop l.never-index l.nevers) l.site l.answer ≡ is_among l.nevers l.site l.answer
