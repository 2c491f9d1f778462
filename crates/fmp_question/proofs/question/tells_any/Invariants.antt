use Rattle.std.proofs.Common.{◌≡◌, false, take}
use Rattle.fmp_question.specs.Forbidden.{forbids}
use Rattle.fmp_question.proofs.question.tells_any.Given as goal

abbrev pub invariant-loop-never : goal.invariant-loop-never
invariant-loop-never l = forbids (take l.never-index l.nevers) l.line ≡ false
