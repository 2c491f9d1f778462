use Rattle.std.proofs.Common.{◌≡◌}
use Rattle.fmp_explore.specs.Searching.{CanStep, HasTried, watched_in}
use Rattle.fmp_explore.proofs.searches.Search.try_from.Given as goal
use Rattle.fmp_witness.specs.Asked.{asked_of}

abbrev pub invariant-loop-place : goal.invariant-loop-place
invariant-loop-place l =
    record {
      tried :
          HasTried (asked_of l.here.subject.now) l.fn.kernel.world
          (watched_in l.here.subject.now.question.now l.here.at.now) l.marks l.fn.self l.self l.place;
      ready : CanStep (asked_of l.here.subject.now) l.kernel;
      same : l.kernel ≡ l.fn.kernel;
    }
