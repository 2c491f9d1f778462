use Rattle.std.proofs.Common.{◌++◌, ◌+◌, append-nil, sym, ap, ◌∙◌, arith}
use Rattle.fmp_searching.specs.Findings.{finding_text}
use Rattle.fmp_searching.specs.Sources.{source_tables}
use Rattle.fmp_searching.proofs.SeenLists.{numbered_end}
use Rattle.fmp_searching.proofs.exploring.findings_text.Goals as goal

pub returns : goal.returns
returns c =
    let end =
    numbered_end (λ number f x. finding_text (source_tables c.args.sources.now) number f x)
    (c.loop-i.i + 1) c.args.findings.now c.args.seen.now c.loop-i.i
    (omega (arith, c.min-count.ensures, c.loop-i-test.false)) in
    sym (append-nil c.loop-i.text.items) ∙ ap (λ r. c.loop-i.text.items ++ r) (sym end) ∙ c.loop-i.invariant
