use Rattle.std.proofs.Common.{◌++◌, append-nil, sym, ap, ◌∙◌, arith}
use Rattle.fmp_searching.specs.ExtentRecords.{peak_record}
use Rattle.fmp_searching.proofs.SeenLists.{numbered_end}
use Rattle.fmp_searching.proofs.peak_records.append_row_peaks.Goals as goal

pub returns : goal.returns
returns g c =
    let end =
    numbered_end (λ i x most. peak_record c.args.what.now (g.T.HasName.name_of x) (g.N.Count.number most))
    c.loop-i.i c.args.rows.now c.args.peaks.now c.loop-i.i
    (omega (arith, c.min-count.ensures, c.loop-i-test.false)) in
    sym (append-nil c.loop-i.out.items) ∙ ap (λ r. c.loop-i.out.items ++ r) (sym end) ∙ c.loop-i.invariant
