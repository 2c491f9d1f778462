use Rattle.std.proofs.Common.{ℕ, List, ap, ◌∙◌}
use Rattle.std.proofs.lemmas.Result.{IfOk-weaker}
use Rattle.std.specs.Str.Lossy.{utf8_lossy}
use Rattle.fmp_expect.specs.Words.{line_at}
use Rattle.fmp_looking.specs.TestRecords.{failed_record}
use Rattle.fmp_looking.proofs.test_records.shown_record.Goals as goal

pub returns : goal.returns
returns c =
    let name : List ℕ = c.args.expectations.now.name.now in
    let failed = c.args.failed.now in
    let shown : List ℕ = c.deref-2.result.now in
    let line : List ℕ = line_at c.args.expectations.now.text.now failed.trial.run.broken.line in
    IfOk-weaker c.failed_record.result _ _
    (λ out h. h
    ∙ ap (λ (s : List ℕ). failed_record name c.args.seeds failed.trial shown s)
    (c.deref-3.ensures ∙ c.in_ok-steps.ensures.lossy ∙ ap (λ (b : List ℕ). utf8_lossy b) c.deref.ensures.value)
    ∙ ap (λ (s : List ℕ). failed_record name c.args.seeds failed.trial s (utf8_lossy failed.steps.items))
    (c.deref-2.ensures ∙ c.in_ok-expectation.ensures.lossy ∙ ap (λ (b : List ℕ). utf8_lossy b) c.line_at-text.ensures))
    c.failed_record.ensures
