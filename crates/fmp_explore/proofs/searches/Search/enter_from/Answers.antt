use Rattle.std.proofs.Common.{arith}
use Rattle.fmp_explore.proofs.SearchStepLemmas.{grows_on, same_grows}
use Rattle.fmp_explore.proofs.SliceLemmas.{row_entered}
use Rattle.fmp_explore.proofs.searches.Search.enter_from.Goals as goal

pub loop-k-init : goal.loop-k-init
loop-k-init c = record { grows = same_grows c.args.self.now; entered = c.requires }

pub loop-k-preserved : goal.loop-k-preserved
loop-k-preserved c =
    let l = c.loop-k in
    record {
      grows = grows_on c.args.self.now l.self c.enter_next.new.self l.invariant.grows c.in_ok-place.ensures.grows;
      entered =
          row_entered c.args.slice.now.search l.k l.self c.enter_next.new.self c.in_ok-place.ensures.grows
          l.invariant.entered c.in_ok-place.ensures.kept;
    }

pub returns-clause-entered : goal.returns-clause-entered
returns-clause-entered c = λ sure j row before there.
    c.loop-k.invariant.entered sure j row (omega (arith, before)) there
