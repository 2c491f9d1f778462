use Rattle.fmp_explore.specs.Searching.{AreKernelsOf}
use Rattle.fmp_explore.specs.Slices.{HasExaminedFirst}
use Rattle.fmp_explore.proofs.searches.Search.examine_first.Given as goal
use Rattle.fmp_witness.specs.Asked.{asked_of}

abbrev pub invariant-loop-k : goal.invariant-loop-k
invariant-loop-k l =
    record {
      first : HasExaminedFirst (asked_of l.subject) l.k l.fn.self l.self;
      kernels : AreKernelsOf (asked_of l.subject) l.kernels;
    }
