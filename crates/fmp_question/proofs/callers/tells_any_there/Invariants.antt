use Rattle.std.proofs.Common.{◌≡◌, false, take}
use Rattle.fmp_base.specs.Systems.{tables_of}
use Rattle.fmp_question.specs.Sites.{forbids_there}
use Rattle.fmp_question.proofs.callers.tells_any_there.Given as goal

abbrev pub invariant-loop-never : goal.invariant-loop-never
invariant-loop-never l =
    forbids_there (tables_of l.sys) (take l.never-index l.nevers) l.kernel.world l.line ≡ false
