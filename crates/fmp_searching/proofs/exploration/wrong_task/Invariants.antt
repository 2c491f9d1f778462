use Rattle.std.proofs.Common.{◌≡◌, drop}
use Rattle.std.specs.Prelude.{find}
use Rattle.fmp_searching.specs.Mistakes.{is_wrong_task}
use Rattle.fmp_searching.proofs.exploration.wrong_task.Given as goal

abbrev pub invariant-loop-word : goal.invariant-loop-word
invariant-loop-word l =
    find (λ w. is_wrong_task l.tasks w.now) (drop l.word-index l.words)
    ≡ find (λ w. is_wrong_task l.tasks w.now) l.words
