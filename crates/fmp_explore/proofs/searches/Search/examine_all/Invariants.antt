use Rattle.fmp_explore.specs.Searching.{AreKernelsOf, IsSearching}
use Rattle.fmp_explore.specs.Slices.{AreSlices}
use Rattle.fmp_explore.proofs.searches.Search.examine_all.Given as goal
use Rattle.fmp_witness.specs.Asked.{asked_of}

abbrev pub invariant-loop-turn : goal.invariant-loop-turn
invariant-loop-turn g l =
    record {
      searching : IsSearching (asked_of l.subject) l.progress.next l.self;
      pending : AreSlices (asked_of l.subject) l.self l.progress.pending.items;
      kernels : AreKernelsOf (asked_of l.subject) l.kernels;
    }
