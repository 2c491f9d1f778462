use Rattle.std.proofs.Common.{◌≡◌, ◌++◌, drop}
use Rattle.fmp_witness.specs.Calls.{answers_in}
use Rattle.fmp_witness.proofs.coverage.add_answers.Given as goal

abbrev pub invariant-loop-code : goal.invariant-loop-code
invariant-loop-code l =
    l.answers.items ++ answers_in l.bits (drop l.code-index l.codes)
    ≡ l.initial.answers.items ++ answers_in l.bits l.codes
