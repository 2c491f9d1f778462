use Rattle.std.proofs.Common.{◌≤◌}
use Rattle.fmp_explore.specs.Searching.{HasTried, IsKernelOf, watched_in}
use Rattle.fmp_explore.proofs.searches.Search.try_before.Given as goal
use Rattle.fmp_witness.specs.Asked.{asked_of}

abbrev pub invariant-loop-try : goal.invariant-loop-try
invariant-loop-try l =
    record {
      far : l._try ≤ l.next;
      tried :
          HasTried (asked_of l.here.subject.now) l.from.world
          (watched_in l.here.subject.now.question.now l.here.at.now) l.marks l.fn.self l.self l.next;
      over : IsKernelOf (asked_of l.here.subject.now) l.kernel;
    }
