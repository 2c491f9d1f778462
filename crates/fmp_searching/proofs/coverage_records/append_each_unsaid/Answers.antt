use Rattle.std.proofs.Common.{◌++◌, append-nil, sym, ap, ◌∙◌, arith}
use Rattle.fmp_searching.specs.ExtentRecords.{unsaid_record}
use Rattle.fmp_searching.specs.Sources.{source_tables}
use Rattle.fmp_searching.proofs.SeenLists.{numbered_end}
use Rattle.fmp_searching.proofs.coverage_records.append_each_unsaid.Goals as goal

pub returns : goal.returns
returns c =
    let end =
    numbered_end (λ place m came. unsaid_record (source_tables c.args.sources.now) place m came)
    c.loop-place.place c.args.monitors.now c.args.premises.now c.loop-place.place
    (omega (arith, c.min-count.ensures, c.loop-place-test.false)) in
    sym (append-nil c.loop-place.out.items) ∙ ap (λ r. c.loop-place.out.items ++ r) (sym end) ∙ c.loop-place.invariant
