use Rattle.std.proofs.Common.{arith}
use Rattle.fmp_explore.proofs.SearchStepLemmas.{grows_on, same_grows}
use Rattle.fmp_explore.proofs.SliceLemmas.{row_taken}
use Rattle.fmp_explore.proofs.searches.Search.take_rows.Goals as goal

pub loop-place-init : goal.loop-place-init
loop-place-init c =
    record { grows = same_grows c.args.self.now; each = λ sure k row past before. absurd (omega (arith, past, before)) }

pub loop-place-preserved : goal.loop-place-preserved
loop-place-preserved c =
    let l = c.loop-place in
    let b = c.check_row.new.self in
    let grows = grows_on l.self c.take_row.new.self b c.in_ok-take_row.ensures c.check_row.ensures.grows in
    record {
      grows = grows_on c.args.self.now l.self b l.invariant.grows grows;
      each =
          row_taken c.args.whole.now c.args.span.first l.place c.row-row.result.now l.self b c.row-row.ensures grows
          l.invariant.each c.check_row.ensures.there;
    }
