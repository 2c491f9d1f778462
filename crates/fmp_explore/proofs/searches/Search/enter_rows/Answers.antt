use Rattle.fmp_explore.proofs.SearchStepLemmas.{grows_on}
use Rattle.fmp_explore.proofs.searches.Search.enter_rows.Goals as goal

pub loop-place-preserved : goal.loop-place-preserved
loop-place-preserved g c =
    let l = c.loop-place in
    record {
      grows = grows_on c.args.self.now l.self c.enter_from.new.self l.invariant.grows c.in_ok-next-2.ensures.grows;
      entered = c.in_ok-next-2.ensures.entered;
    }
