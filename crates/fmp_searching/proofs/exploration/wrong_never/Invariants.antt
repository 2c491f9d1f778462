use Rattle.std.proofs.Common.{◌≡◌, drop}
use Rattle.std.specs.Prelude.{find}
use Rattle.fmp_searching.specs.Mistakes.{is_wrong_never}
use Rattle.fmp_searching.proofs.exploration.wrong_never.Given as goal

abbrev pub invariant-loop-word : goal.invariant-loop-word
invariant-loop-word l =
    find (λ w. is_wrong_never w.now) (drop l.word-index l.words)
    ≡ find (λ w. is_wrong_never w.now) l.words
