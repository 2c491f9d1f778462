use Rattle.std.proofs.Common.{take}
use Rattle.fmp_foreign.specs.Following.{HasFollowed}
use Rattle.fmp_foreign.proofs.shadow.replay_all.Given as goal

-- the text has followed the journal so far
abbrev pub invariant-loop-at : goal.invariant-loop-at
invariant-loop-at g l =
    record {
      followed : HasFollowed g.B.Body.meaning l.fn.kernel (take l.at l.journal) l.kernel;
    }
