use Rattle.std.proofs.Common.{◌≡◌, ◌+◌, []}
use Rattle.fmp_foreign.specs.Following.{HasFollowed}
use Rattle.fmp_foreign.proofs.shadow.take_turns.Given as goal

-- so far the text has only gone on within the stretch
abbrev pub invariant-loop : goal.invariant-loop
invariant-loop g l =
    record {
      followed : HasFollowed g.B.Body.meaning l.fn.kernel [] l.kernel;
      taken : l.kernel.taken ≡ l.fn.kernel.taken + l.counter;
    }
