use Rattle.std.proofs.Common.{arith}
use Rattle.fmp_explore.proofs.SearchStepLemmas.{same_grows}
use Rattle.fmp_explore.proofs.SliceLemmas.{first_examined}
use Rattle.fmp_explore.proofs.searches.Search.examine_first.Goals as goal
use Rattle.fmp_witness.specs.Asked.{asked_of}

pub loop-k-init : goal.loop-k-init
loop-k-init c =
    record {
      first =
          record {
            search = c.requires.search;
            grows = same_grows c.args.self.now;
            each = λ sure k row before. absurd (omega (arith, before));
          };
      kernels = c.requires.kernels;
    }

pub examine_there-requires-clause-search : goal.examine_there-requires-clause-search
examine_there-requires-clause-search c = c.loop-k.invariant.first.search

pub loop-k-preserved : goal.loop-k-preserved
loop-k-preserved c =
    let l = c.loop-k in
    record {
      first =
          first_examined (asked_of c.args.subject.now) l.k c.args.self.now l.self c.examine_there.new.self
          l.invariant.first c.in_ok-examine_there.ensures.examined;
      kernels = c.in_ok-examine_there.ensures.kernels;
    }

pub returns : goal.returns
returns c =
    let first = c.loop-k.invariant.first in
    record {
      search = first.search;
      grows = first.grows;
      each = λ sure k row before there. first.each sure k row (omega (arith, before)) there;
    }
