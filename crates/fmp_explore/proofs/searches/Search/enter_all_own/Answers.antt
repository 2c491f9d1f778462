use Rattle.std.proofs.Common.{arith}
use Rattle.fmp_explore.proofs.SearchStepLemmas.{grows_on, same_grows}
use Rattle.fmp_explore.proofs.SliceLemmas.{own_entered}
use Rattle.fmp_explore.proofs.searches.Search.enter_all_own.Goals as goal

pub loop-place-init : goal.loop-place-init
loop-place-init c =
    record { grows = same_grows c.args.self.now; each = λ sure k row before. absurd (omega (arith, before)) }

pub loop-place-preserved : goal.loop-place-preserved
loop-place-preserved c =
    let l = c.loop-place in
    record {
      grows = grows_on c.args.self.now l.self c.enter_own.new.self l.invariant.grows c.enter_own.ensures.grows;
      each =
          own_entered c.args.slice.now.search c.args.slice.now.span.first l.place l.self c.enter_own.new.self
          c.enter_own.ensures.grows l.invariant.each c.enter_own.ensures.kept;
    }

pub returns-clause-entered : goal.returns-clause-entered
returns-clause-entered c = λ sure k row before there.
    c.loop-place.invariant.each sure k row (omega (arith, before, c.len.ensures)) there
