use Rattle.std.proofs.Common.{◌≡◌, ◌+◌, ◌<◌, List, length, sym, ap, ◌∙◌, subst, rules, length-append}
use Rattle.fmp_base.specs.Steps.{Did, Kept, step}
use Rattle.fmp_instructions.specs.Machine.{code_meaning}
use Rattle.fmp_kernel.specs.KernelViews.{view_after}
use Rattle.fmp_journal.specs.declared.entry.JournalEntry.{JournalEntry}
use Rattle.fmp_journal.specs.Seats.{events}
use Rattle.fmp_journal.specs.Words.{entry}
use Rattle.fmp_board.specs.Boards.{IsReplay}
use Rattle.fmp_journal.specs.Receipts.{call_reply, journal_after, marks_after}
use Rattle.fmp_replay.specs.Replays.{reaction}
use Rattle.fmp_board.proofs.Entering.{done_by, kept_by, nothing_by, step_there, replay_more, receipt_done, receipt_kept}
use Rattle.fmp_board.proofs.Entering.{receipt_nothing}
use Rattle.fmp_board.proofs.book.Book.enter.Goals as goal

pub invariant_of-self-in-Done : goal.invariant_of-self-in-Done
invariant_of-self-in-Done g c =
    let b = c.self.invariant in
    let kernel = c.self.inside.kernel in
    let journal = c.self.inside.scribe.journal in
    let site = g.S.Site in
    let done = done_by (step kernel.system (code_meaning kernel.body) kernel.bound kernel.world c.args.event)
    (sym c.in-Done.is ∙ c.step.ensures.effect) in
    let lt : length journal < site.row_id.capacity = search rules in
    let there : reaction site.image site.bound (events journal) c.args.event ≡ Did done.0 =
    sym (step_there site.image site.bound site.row_id.capacity site.row_id.seats kernel journal c.args.event b.3)
    ∙ done.1 in (
      b.0,
      ap (λ v. v.row) c.write.ensures ∙ b.1,
      b.2,
      subst (λ (xs : List JournalEntry). IsReplay site.image site.bound site.row_id.capacity site.row_id.seats
          c.step.new.self xs) (sym (ap (λ v. v.journal) c.write.ensures))
          (replay_more site.image site.bound site.row_id.capacity site.row_id.seats kernel c.step.new.self journal
          (entry c.args.seat c.args.event) (Did done.0) b.3 lt c.requires there tt
          (c.step.ensures.state ∙ ap (view_after kernel) done.1)),
      b.4,
    )

pub returns-in-Nothing-clause-receipt : goal.returns-in-Nothing-clause-receipt
returns-in-Nothing-clause-receipt g c =
    let b = c.self.invariant in
    let site = g.S.Site in
    let there = step_there site.image site.bound site.row_id.capacity site.row_id.seats c.self.inside.kernel
    c.self.inside.scribe.journal c.args.event b.3 in
    let was : c.args.self.now.journal ≡ c.self.inside.scribe.journal = search rules in
    rw was (c.nothing.ensures ∙ receipt_nothing _ _ (sym there
    ∙ nothing_by _ (sym c.in-Nothing.is ∙ c.step.ensures.effect)))

pub returns-in-Nothing-clause-journal : goal.returns-in-Nothing-clause-journal
returns-in-Nothing-clause-journal g c =
    let b = c.self.invariant in
    let site = g.S.Site in
    let journal = c.self.inside.scribe.journal in
    let there = step_there site.image site.bound site.row_id.capacity site.row_id.seats c.self.inside.kernel journal
    c.args.event b.3 in
    let was : c.args.self.now.journal ≡ c.self.inside.scribe.journal = search rules in
    rw was (sym (ap (journal_after journal (entry c.args.seat c.args.event))
    (sym there ∙ nothing_by _ (sym c.in-Nothing.is ∙ c.step.ensures.effect))))

pub returns-in-Nothing-clause-marks : goal.returns-in-Nothing-clause-marks
returns-in-Nothing-clause-marks g c =
    let b = c.self.invariant in
    let site = g.S.Site in
    let journal = c.self.inside.scribe.journal in
    let there = step_there site.image site.bound site.row_id.capacity site.row_id.seats c.self.inside.kernel journal
    c.args.event b.3 in
    let was : c.args.self.now.journal ≡ c.self.inside.scribe.journal = search rules in
    let marks : c.args.self.now.marks ≡ c.self.inside.scribe.marks = search rules in
    rw marks (rw was (sym (ap (marks_after c.self.inside.scribe.marks c.args.seat)
    (sym there ∙ nothing_by _ (sym c.in-Nothing.is ∙ c.step.ensures.effect)))))

pub returns-in-Done-clause-receipt : goal.returns-in-Done-clause-receipt
returns-in-Done-clause-receipt g c =
    let b = c.self.invariant in
    let site = g.S.Site in
    let kernel = c.self.inside.kernel in
    let journal = c.self.inside.scribe.journal in
    let done = done_by (step kernel.system (code_meaning kernel.body) kernel.bound kernel.world c.args.event)
    (sym c.in-Done.is ∙ c.step.ensures.effect) in
    let there : reaction site.image site.bound (events journal) c.args.event ≡ Did done.0 =
    sym (step_there site.image site.bound site.row_id.capacity site.row_id.seats kernel journal c.args.event b.3)
    ∙ done.1 in
    let lines : c.step.new.self.lines ≡ done.0.lines = ap (λ v. v.lines)
    (c.step.ensures.state ∙ ap (view_after kernel) done.1) in
    let count : c.len.result ≡ length journal + 1 = search (rules, length-append) in
    let was : c.args.self.now.journal ≡ c.self.inside.scribe.journal = search rules in
    rw was (c.done.ensures ∙ receipt_done _ done.0 _ _ _ there count (ap call_reply (c.lines.ensures ∙ lines)))

pub returns-in-Done-clause-journal : goal.returns-in-Done-clause-journal
returns-in-Done-clause-journal g c =
    let b = c.self.invariant in
    let site = g.S.Site in
    let kernel = c.self.inside.kernel in
    let journal = c.self.inside.scribe.journal in
    let done = done_by (step kernel.system (code_meaning kernel.body) kernel.bound kernel.world c.args.event)
    (sym c.in-Done.is ∙ c.step.ensures.effect) in
    let there : reaction site.image site.bound (events journal) c.args.event ≡ Did done.0 =
    sym (step_there site.image site.bound site.row_id.capacity site.row_id.seats kernel journal c.args.event b.3)
    ∙ done.1 in
    let was : c.args.self.now.journal ≡ c.self.inside.scribe.journal = search rules in
    rw was (ap (λ v. v.journal) c.write.ensures ∙ sym (ap (journal_after journal (entry c.args.seat c.args.event))
    there))

pub returns-in-Done-clause-marks : goal.returns-in-Done-clause-marks
returns-in-Done-clause-marks g c =
    let b = c.self.invariant in
    let site = g.S.Site in
    let kernel = c.self.inside.kernel in
    let journal = c.self.inside.scribe.journal in
    let done = done_by (step kernel.system (code_meaning kernel.body) kernel.bound kernel.world c.args.event)
    (sym c.in-Done.is ∙ c.step.ensures.effect) in
    let there : reaction site.image site.bound (events journal) c.args.event ≡ Did done.0 =
    sym (step_there site.image site.bound site.row_id.capacity site.row_id.seats kernel journal c.args.event b.3)
    ∙ done.1 in
    let was : c.args.self.now.journal ≡ c.self.inside.scribe.journal = search rules in
    let marks : c.args.self.now.marks ≡ c.self.inside.scribe.marks = search rules in
    rw marks (rw was (ap (λ v. v.marks) c.write.ensures ∙ sym (ap (marks_after c.self.inside.scribe.marks c.args.seat)
    there)))

pub invariant_of-self-in-Kept : goal.invariant_of-self-in-Kept
invariant_of-self-in-Kept g c =
    let b = c.self.invariant in
    let kernel = c.self.inside.kernel in
    let journal = c.self.inside.scribe.journal in
    let site = g.S.Site in
    let kept = kept_by (step kernel.system (code_meaning kernel.body) kernel.bound kernel.world c.args.event)
    (sym c.in-Kept.is ∙ c.step.ensures.effect) in
    let lt : length journal < site.row_id.capacity = search rules in
    let there : reaction site.image site.bound (events journal) c.args.event ≡ Kept kept.0 kept.1 =
    sym (step_there site.image site.bound site.row_id.capacity site.row_id.seats kernel journal c.args.event b.3)
    ∙ kept.2 in (
      b.0,
      ap (λ v. v.row) c.write-in-Kept.ensures ∙ b.1,
      b.2,
      subst (λ (xs : List JournalEntry). IsReplay site.image site.bound site.row_id.capacity site.row_id.seats
          c.step.new.self xs) (sym (ap (λ v. v.journal) c.write-in-Kept.ensures))
          (replay_more site.image site.bound site.row_id.capacity site.row_id.seats kernel c.step.new.self journal
          (entry c.args.seat c.args.event) (Kept kept.0 kept.1) b.3 lt c.requires there tt
          (c.step.ensures.state ∙ ap (view_after kernel) kept.2)),
      b.4,
    )

pub returns-in-Kept-clause-receipt : goal.returns-in-Kept-clause-receipt
returns-in-Kept-clause-receipt g c =
    let b = c.self.invariant in
    let site = g.S.Site in
    let kernel = c.self.inside.kernel in
    let journal = c.self.inside.scribe.journal in
    let kept = kept_by (step kernel.system (code_meaning kernel.body) kernel.bound kernel.world c.args.event)
    (sym c.in-Kept.is ∙ c.step.ensures.effect) in
    let there : reaction site.image site.bound (events journal) c.args.event ≡ Kept kept.0 kept.1 =
    sym (step_there site.image site.bound site.row_id.capacity site.row_id.seats kernel journal c.args.event b.3)
    ∙ kept.2 in
    let count : c.len-in-Kept.result ≡ length journal + 1 = search (rules, length-append) in
    let was : c.args.self.now.journal ≡ c.self.inside.scribe.journal = search rules in
    rw was (c.kept.ensures ∙ receipt_kept _ kept.0 kept.1 _ _ there count)

pub returns-in-Kept-clause-journal : goal.returns-in-Kept-clause-journal
returns-in-Kept-clause-journal g c =
    let b = c.self.invariant in
    let site = g.S.Site in
    let kernel = c.self.inside.kernel in
    let journal = c.self.inside.scribe.journal in
    let kept = kept_by (step kernel.system (code_meaning kernel.body) kernel.bound kernel.world c.args.event)
    (sym c.in-Kept.is ∙ c.step.ensures.effect) in
    let there : reaction site.image site.bound (events journal) c.args.event ≡ Kept kept.0 kept.1 =
    sym (step_there site.image site.bound site.row_id.capacity site.row_id.seats kernel journal c.args.event b.3)
    ∙ kept.2 in
    let was : c.args.self.now.journal ≡ c.self.inside.scribe.journal = search rules in
    rw was (ap (λ v. v.journal) c.write-in-Kept.ensures ∙ sym (ap (journal_after journal
    (entry c.args.seat c.args.event)) there))

pub returns-in-Kept-clause-marks : goal.returns-in-Kept-clause-marks
returns-in-Kept-clause-marks g c =
    let b = c.self.invariant in
    let site = g.S.Site in
    let kernel = c.self.inside.kernel in
    let journal = c.self.inside.scribe.journal in
    let kept = kept_by (step kernel.system (code_meaning kernel.body) kernel.bound kernel.world c.args.event)
    (sym c.in-Kept.is ∙ c.step.ensures.effect) in
    let there : reaction site.image site.bound (events journal) c.args.event ≡ Kept kept.0 kept.1 =
    sym (step_there site.image site.bound site.row_id.capacity site.row_id.seats kernel journal c.args.event b.3)
    ∙ kept.2 in
    let was : c.args.self.now.journal ≡ c.self.inside.scribe.journal = search rules in
    let marks : c.args.self.now.marks ≡ c.self.inside.scribe.marks = search rules in
    rw marks (rw was (ap (λ v. v.marks) c.write-in-Kept.ensures
    ∙ sym (ap (marks_after c.self.inside.scribe.marks c.args.seat) there)))
