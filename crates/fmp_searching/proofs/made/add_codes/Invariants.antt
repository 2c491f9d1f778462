use Rattle.std.proofs.Common.{◌≡◌, ◌++◌, drop}
use Rattle.fmp_searching.specs.Made.{answers_of_site}
use Rattle.fmp_searching.proofs.made.add_codes.Given as goal

abbrev pub invariant-loop-code : goal.invariant-loop-code
invariant-loop-code l =
    l.answers.items ++ answers_of_site l.site (drop l.code-index l.codes)
    ≡ l.initial.answers.items ++ answers_of_site l.site l.codes
