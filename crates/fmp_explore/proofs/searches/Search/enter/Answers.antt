use Rattle.std.proofs.Common.{arith}
use Rattle.fmp_explore.proofs.SearchStepLemmas.{grows_on, stays_grows}
use Rattle.fmp_explore.proofs.SliceLemmas.{entered_grown}
use Rattle.fmp_explore.proofs.searches.Search.enter.Goals as goal

pub returns : goal.returns
returns g c =
    let a = c.args.self.now in
    let b = c.enter_rows.new.self in
    let d = c.join.new.self in
    let slice = c.args.slice.now.search in
    let rows = c.in_ok-next.ensures in
    let stays = stays_grows b d c.join.ensures.stays in
    record {
      grows = grows_on a b d rows.grows stays;
      sure = c.join.ensures.sure;
      each = λ sure k row before there.
          let all = c.has_all-all.ensures (c.join.ensures.all sure) in
          entered_grown slice _ b d stays rows.entered sure k row (omega (arith, before, all)) there;
    }
