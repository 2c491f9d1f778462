use Rattle.std.proofs.Common.{◌≡◌, ◌++◌, drop}
use Rattle.fmp_looking.specs.Marks.{at_first, marks_from}
use Rattle.fmp_looking.proofs.marks.marks_in.Given as goal

abbrev pub invariant-loop-at : goal.invariant-loop-at
invariant-loop-at l =
    l.marks.items ++ marks_from l.text l.walk (drop l.at l.tokens) ≡ marks_from l.text at_first l.tokens
