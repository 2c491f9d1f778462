use Rattle.std.proofs.Common.{◌≡◌, drop}
use Rattle.fmp_looking.specs.TestRefusals.{with_answers}
use Rattle.fmp_looking.proofs.test_refusals.add_answers.Given as goal

abbrev pub invariant-loop-one : goal.invariant-loop-one
invariant-loop-one l =
    with_answers l.answers.items (drop l.one-index l.more) ≡ with_answers l.initial.answers.items l.more
