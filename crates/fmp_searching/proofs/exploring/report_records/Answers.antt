use Rattle.std.proofs.Common.{◌∙◌, ◌++◌, List, ℕ, ap, append_assoc}
use Rattle.fmp_witness.specs.declared.finding.Finding.{Finding}
use Rattle.fmp_searching.specs.ExtentRecords.{covered_records}
use Rattle.fmp_searching.specs.Lines.{numbered}
use Rattle.fmp_searching.specs.Records.{end_record, finding_record}
use Rattle.fmp_searching.specs.Sources.{source_tables}
use Rattle.fmp_searching.specs.declared.seen.Seen.{Seen}
use Rattle.fmp_searching.proofs.exploring.report_records.Goals as goal

pub returns : goal.returns
returns c =
    let s = source_tables c.args.sources.now in
    let r = c.args.report.now in
    let seen = c.args.seen.now in
    let covered : List ℕ = covered_records s r in
    let found : List ℕ =
    numbered (λ number (f : Finding) (x : Seen). finding_record s number f x) 1 r.findings.items seen in
    c.in_ok-extend_from_slice-2.ensures.items
    ∙ ap (λ (xs : List ℕ). c.extend_from_slice.new.self.items ++ xs) (c.deref-3.ensures.value ∙ c.in_ok-end.ensures)
    ∙ ap (λ (xs : List ℕ). xs ++ end_record s r)
    (c.in_ok-extend_from_slice.ensures.items
    ∙ ap (λ (xs : List ℕ). c.in_ok-text.text.items ++ xs) (c.deref-2.ensures.value ∙ c.in_ok-coverage.ensures)
    ∙ ap (λ (xs : List ℕ). xs ++ covered)
    (c.in_ok-text.ensures
    ∙ ap (λ (fs : List Finding). numbered (λ number (f : Finding) (x : Seen). finding_record s number f x) 1 fs seen)
    c.deref.ensures.value))
    ∙ append_assoc found covered (end_record s r)
