use Rattle.std.proofs.Common.{◌≡◌}
use Rattle.fmp_looking.specs.Covered.{AreRunsSeen, IsRunOf, seen_at}
use Rattle.fmp_looking.specs.Tested.{subject_in}
use Rattle.fmp_looking.proofs.trying.seen_on.Given as goal

-- the bench is still that of the trials
abbrev pub invariant-loop-made : goal.invariant-loop-made
invariant-loop-made l =
    (l.bench ≡ subject_in l.trials)
    × AreRunsSeen (IsRunOf l.trials) l.positions l.trials.opened.image.now l.trials.opened.bound l.seeds.before l.made
    (seen_at l.positions l.seen)
