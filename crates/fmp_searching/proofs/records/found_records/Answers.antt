use Rattle.std.proofs.Common.{◌++◌, ◌+◌, append-nil, sym, ap, ◌∙◌, arith}
use Rattle.fmp_searching.specs.Records.{finding_record}
use Rattle.fmp_searching.specs.Sources.{source_tables}
use Rattle.fmp_searching.proofs.SeenLists.{numbered_end}
use Rattle.fmp_searching.proofs.records.found_records.Goals as goal

pub returns : goal.returns
returns c =
    let end =
    numbered_end (λ number f x. finding_record (source_tables c.args.sources.now) number f x)
    (c.loop-i.i + 1) c.args.findings.now c.args.seen.now c.loop-i.i
    (omega (arith, c.min-count.ensures, c.loop-i-test.false)) in
    sym (append-nil c.loop-i.out.items) ∙ ap (λ r. c.loop-i.out.items ++ r) (sym end) ∙ c.loop-i.invariant
