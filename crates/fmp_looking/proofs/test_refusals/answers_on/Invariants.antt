use Rattle.std.proofs.Common.{◌≡◌}
use Rattle.fmp_looking.specs.Covered.{IsRunOf}
use Rattle.fmp_looking.specs.TestRefusals.{AreAnswersOf}
use Rattle.fmp_looking.specs.Tested.{subject_in}
use Rattle.fmp_looking.proofs.test_refusals.answers_on.Given as goal

-- the bench is still that of the trials
abbrev pub invariant-loop-made : goal.invariant-loop-made
invariant-loop-made l =
    (l.bench ≡ subject_in l.trials)
    × AreAnswersOf (IsRunOf l.trials) l.trials.opened.image.now l.trials.opened.bound l.made l.answers.items
