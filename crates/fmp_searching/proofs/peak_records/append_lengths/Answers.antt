use Rattle.std.proofs.Common.{◌≡◌, ◌++◌, ◌∙◌, List, ℕ, OnOk, ap, append_assoc, codes, subst}
use Rattle.fmp_base.specs.Systems.{tables_of}
use Rattle.fmp_base.specs.declared.systems.DataQueueConfig.{DataQueueConfig}
use Rattle.fmp_base.specs.declared.systems.MailboxConfig.{MailboxConfig}
use Rattle.fmp_searching.specs.ExtentRecords.{peak_record}
use Rattle.fmp_searching.specs.Lines.{numbered}
use Rattle.fmp_searching.proofs.peak_records.append_lengths.Goals as goal

pub returns : goal.returns
returns c =
    let out = c.args.out.now.items in
    let what = codes "greatest_length" in
    let peaks = c.args.report.now.coverage.peaks in
    let sys = tables_of c.args.sys.now in
    let queues : List ℕ =
    numbered (λ i (x : DataQueueConfig) most. peak_record what x.name most) 0 sys.data_queues peaks.words.items in
    let boxes : List ℕ =
    numbered (λ i (x : MailboxConfig) most. peak_record what x.name most) 0 sys.mailboxes peaks.messages.items in
    let first : c.append_row_peaks.new.out.items ≡ out ++ queues =
    c.in_ok-append_row_peaks.ensures
    ∙ ap
    (λ (xs : List DataQueueConfig). out
    ++ numbered (λ i (x : DataQueueConfig) most. peak_record what x.name most) 0 xs c.deref-2.result.now)
    c.deref.ensures.value
    ∙ ap
    (λ (ns : List ℕ). out
    ++ numbered (λ i (x : DataQueueConfig) most. peak_record what x.name most) 0 sys.data_queues ns)
    c.deref-2.ensures.value in
    let last : c.append_row_peaks.new.out.items
    ++ numbered (λ i (x : MailboxConfig) most. peak_record what x.name most) 0 c.deref-3.result.now
    c.deref-4.result.now ≡ out ++ (queues ++ boxes) =
    ap
    (λ (xs : List MailboxConfig). c.append_row_peaks.new.out.items
    ++ numbered (λ i (x : MailboxConfig) most. peak_record what x.name most) 0 xs c.deref-4.result.now)
    c.deref-3.ensures.value
    ∙ ap
    (λ (ns : List ℕ). c.append_row_peaks.new.out.items
    ++ numbered (λ i (x : MailboxConfig) most. peak_record what x.name most) 0 sys.mailboxes ns)
    c.deref-4.ensures.value
    ∙ ap (λ (xs : List ℕ). xs ++ boxes) first
    ∙ append_assoc out queues boxes in
    subst
    (λ (xs : List ℕ). OnOk c.append_row_peaks-2.result (c.append_row_peaks-2.new.out.items ≡ xs)) last
    c.append_row_peaks-2.ensures
