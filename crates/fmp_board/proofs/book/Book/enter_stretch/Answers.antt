use Rattle.std.proofs.Common.{◌≡◌, ◌+◌, ◌<◌, List, [], ◌∷◌, ◌++◌, ℕ, length, Some, sym, ap, ◌∙◌, subst, rules}
use Rattle.std.proofs.Common.{length-append}
use Rattle.fmp_base.specs.declared.events.Event.TheVariants.{Run}
use Rattle.fmp_base.specs.Steps.{Did, Kept}
use Rattle.fmp_base.specs.Stretches.{ending}
use Rattle.fmp_instructions.specs.Machine.{code_meaning}
use Rattle.fmp_kernel.specs.KernelViews.{view_after}
use Rattle.fmp_worlds.specs.Stamps.{applied}
use Rattle.fmp_journal.specs.declared.entry.JournalEntry.{JournalEntry}
use Rattle.fmp_journal.specs.Seats.{events}
use Rattle.fmp_journal.specs.Words.{entry}
use Rattle.fmp_board.specs.Boards.{IsReplay}
use Rattle.fmp_board.specs.Outcomes.{actor_after}
use Rattle.fmp_journal.specs.Receipts.{call_reply, journal_after, marks_after}
use Rattle.fmp_replay.specs.Replays.{reaction}
use Rattle.fmp_board.proofs.Drawing.{outcome_runs, stamp_of_actor}
use Rattle.fmp_board.proofs.Entering.{done_by, kept_by, nothing_by, replay_more, receipt_done, receipt_kept}
use Rattle.fmp_board.proofs.Entering.{receipt_nothing}
use Rattle.fmp_board.proofs.book.Book.enter_stretch.Goals as goal

pub returns-in-Nothing-clause-answer : goal.returns-in-Nothing-clause-answer
returns-in-Nothing-clause-answer g c =
    let b = c.self.invariant in
    let site = g.S.Site in
    let kernel = c.self.inside.kernel in
    let journal = c.self.inside.scribe.journal in
    let o = c.args.outcome.now in
    let p = o.ticket.processor in
    let was : c.args.self.now.journal ≡ journal = search rules in
    let here : actor_after site.image site.bound c.args.self.now.journal p ≡ Some o.ticket.actor = search rules in
    let there = rw was at here in
    let lt : length journal < site.row_id.capacity = search rules in
    let runs : applied kernel.system (code_meaning kernel.body) kernel.world c.processor-2.result
    (ending c.ended.result) ≡ reaction site.image site.bound (events journal) (Run p) =
    ap (λ q. applied kernel.system (code_meaning kernel.body) kernel.world q (ending c.ended.result))
    c.processor-2.ensures
    ∙ ap (λ x. applied kernel.system (code_meaning kernel.body) kernel.world p x) c.ended.ensures
    ∙ outcome_runs site.image site.bound site.row_id.capacity site.row_id.seats kernel journal o b.3
    c.requires.outcome c.requires.drawn.is_of there in
    rw was (
      stamp_of_actor site.image site.bound journal p o.ticket.actor there,
      lt,
      c.nothing.ensures ∙ receipt_nothing _ _ (sym runs ∙ nothing_by _ (sym c.in-Nothing.is ∙ c.apply.ensures.effect)),
    )

pub returns-in-Nothing-clause-journal : goal.returns-in-Nothing-clause-journal
returns-in-Nothing-clause-journal g c =
    let b = c.self.invariant in
    let site = g.S.Site in
    let kernel = c.self.inside.kernel in
    let journal = c.self.inside.scribe.journal in
    let o = c.args.outcome.now in
    let p = o.ticket.processor in
    let was : c.args.self.now.journal ≡ journal = search rules in
    let here : actor_after site.image site.bound c.args.self.now.journal p ≡ Some o.ticket.actor = search rules in
    let runs : applied kernel.system (code_meaning kernel.body) kernel.world c.processor-2.result
    (ending c.ended.result) ≡ reaction site.image site.bound (events journal) (Run p) =
    ap (λ q. applied kernel.system (code_meaning kernel.body) kernel.world q (ending c.ended.result))
    c.processor-2.ensures
    ∙ ap (λ x. applied kernel.system (code_meaning kernel.body) kernel.world p x) c.ended.ensures
    ∙ outcome_runs site.image site.bound site.row_id.capacity site.row_id.seats kernel journal o b.3
    c.requires.outcome c.requires.drawn.is_of (rw was at here) in
    rw was (sym (ap (journal_after journal (entry c.args.seat (Run p)))
    (sym runs ∙ nothing_by _ (sym c.in-Nothing.is ∙ c.apply.ensures.effect))))

pub returns-in-Nothing-clause-marks : goal.returns-in-Nothing-clause-marks
returns-in-Nothing-clause-marks g c =
    let b = c.self.invariant in
    let site = g.S.Site in
    let kernel = c.self.inside.kernel in
    let journal = c.self.inside.scribe.journal in
    let o = c.args.outcome.now in
    let p = o.ticket.processor in
    let was : c.args.self.now.journal ≡ journal = search rules in
    let here : actor_after site.image site.bound c.args.self.now.journal p ≡ Some o.ticket.actor = search rules in
    let runs : applied kernel.system (code_meaning kernel.body) kernel.world c.processor-2.result
    (ending c.ended.result) ≡ reaction site.image site.bound (events journal) (Run p) =
    ap (λ q. applied kernel.system (code_meaning kernel.body) kernel.world q (ending c.ended.result))
    c.processor-2.ensures
    ∙ ap (λ x. applied kernel.system (code_meaning kernel.body) kernel.world p x) c.ended.ensures
    ∙ outcome_runs site.image site.bound site.row_id.capacity site.row_id.seats kernel journal o b.3
    c.requires.outcome c.requires.drawn.is_of (rw was at here) in
    let marks : c.args.self.now.marks ≡ c.self.inside.scribe.marks = search rules in
    rw marks (rw was (sym (ap (marks_after c.self.inside.scribe.marks c.args.seat)
    (sym runs ∙ nothing_by _ (sym c.in-Nothing.is ∙ c.apply.ensures.effect)))))

pub invariant_of-self-in-Done : goal.invariant_of-self-in-Done
invariant_of-self-in-Done g c =
    let b = c.self.invariant in
    let site = g.S.Site in
    let kernel = c.self.inside.kernel in
    let journal = c.self.inside.scribe.journal in
    let o = c.args.outcome.now in
    let p = o.ticket.processor in
    let was : c.args.self.now.journal ≡ journal = search rules in
    let here : actor_after site.image site.bound c.args.self.now.journal p ≡ Some o.ticket.actor = search rules in
    let lt : length journal < site.row_id.capacity = search rules in
    let runs : applied kernel.system (code_meaning kernel.body) kernel.world c.processor-2.result
    (ending c.ended.result) ≡ reaction site.image site.bound (events journal) (Run p) =
    ap (λ q. applied kernel.system (code_meaning kernel.body) kernel.world q (ending c.ended.result))
    c.processor-2.ensures
    ∙ ap (λ x. applied kernel.system (code_meaning kernel.body) kernel.world p x) c.ended.ensures
    ∙ outcome_runs site.image site.bound site.row_id.capacity site.row_id.seats kernel journal o b.3
    c.requires.outcome c.requires.drawn.is_of (rw was at here) in
    let done = done_by (applied kernel.system (code_meaning kernel.body) kernel.world c.processor-2.result
    (ending c.ended.result)) (sym c.in-Done.is ∙ c.apply.ensures.effect) in
    let items : c.write.new.self.journal ≡ journal ++ entry c.args.seat (Run p) ∷ [] =
    ap (λ v. v.journal) c.write.ensures ∙ ap (λ (q : ℕ). journal ++ entry c.args.seat (Run q) ∷ [])
    c.processor.ensures in (
      b.0,
      ap (λ v. v.row) c.write.ensures ∙ b.1,
      b.2,
      subst (λ (xs : List JournalEntry). IsReplay site.image site.bound site.row_id.capacity site.row_id.seats
          c.apply.new.self xs) (sym items)
          (replay_more site.image site.bound site.row_id.capacity site.row_id.seats kernel c.apply.new.self journal
          (entry c.args.seat (Run p)) (Did done.0) b.3 lt c.requires.seat (sym runs ∙ done.1) tt
          (c.apply.ensures.state ∙ ap (view_after kernel) done.1)),
      b.4,
    )

pub returns-in-Done-clause-answer : goal.returns-in-Done-clause-answer
returns-in-Done-clause-answer g c =
    let b = c.self.invariant in
    let site = g.S.Site in
    let kernel = c.self.inside.kernel in
    let journal = c.self.inside.scribe.journal in
    let o = c.args.outcome.now in
    let p = o.ticket.processor in
    let was : c.args.self.now.journal ≡ journal = search rules in
    let here : actor_after site.image site.bound c.args.self.now.journal p ≡ Some o.ticket.actor = search rules in
    let there = rw was at here in
    let lt : length journal < site.row_id.capacity = search rules in
    let runs : applied kernel.system (code_meaning kernel.body) kernel.world c.processor-2.result
    (ending c.ended.result) ≡ reaction site.image site.bound (events journal) (Run p) =
    ap (λ q. applied kernel.system (code_meaning kernel.body) kernel.world q (ending c.ended.result))
    c.processor-2.ensures
    ∙ ap (λ x. applied kernel.system (code_meaning kernel.body) kernel.world p x) c.ended.ensures
    ∙ outcome_runs site.image site.bound site.row_id.capacity site.row_id.seats kernel journal o b.3
    c.requires.outcome c.requires.drawn.is_of there in
    let done = done_by (applied kernel.system (code_meaning kernel.body) kernel.world c.processor-2.result
    (ending c.ended.result)) (sym c.in-Done.is ∙ c.apply.ensures.effect) in
    let lines : c.apply.new.self.lines ≡ done.0.lines = ap (λ v. v.lines)
    (c.apply.ensures.state ∙ ap (view_after kernel) done.1) in
    let count : c.len.result ≡ length journal + 1 = search (rules, length-append) in
    rw was (
      stamp_of_actor site.image site.bound journal p o.ticket.actor there,
      lt,
      c.done.ensures ∙ receipt_done _ done.0 _ _ _ (sym runs ∙ done.1) count (ap call_reply (c.lines.ensures ∙ lines)),
    )

pub returns-in-Done-clause-journal : goal.returns-in-Done-clause-journal
returns-in-Done-clause-journal g c =
    let b = c.self.invariant in
    let site = g.S.Site in
    let kernel = c.self.inside.kernel in
    let journal = c.self.inside.scribe.journal in
    let o = c.args.outcome.now in
    let p = o.ticket.processor in
    let was : c.args.self.now.journal ≡ journal = search rules in
    let here : actor_after site.image site.bound c.args.self.now.journal p ≡ Some o.ticket.actor = search rules in
    let runs : applied kernel.system (code_meaning kernel.body) kernel.world c.processor-2.result
    (ending c.ended.result) ≡ reaction site.image site.bound (events journal) (Run p) =
    ap (λ q. applied kernel.system (code_meaning kernel.body) kernel.world q (ending c.ended.result))
    c.processor-2.ensures
    ∙ ap (λ x. applied kernel.system (code_meaning kernel.body) kernel.world p x) c.ended.ensures
    ∙ outcome_runs site.image site.bound site.row_id.capacity site.row_id.seats kernel journal o b.3
    c.requires.outcome c.requires.drawn.is_of (rw was at here) in
    let done = done_by (applied kernel.system (code_meaning kernel.body) kernel.world c.processor-2.result
    (ending c.ended.result)) (sym c.in-Done.is ∙ c.apply.ensures.effect) in
    let items : c.write.new.self.journal ≡ journal ++ entry c.args.seat (Run p) ∷ [] =
    ap (λ v. v.journal) c.write.ensures ∙ ap (λ (q : ℕ). journal ++ entry c.args.seat (Run q) ∷ [])
    c.processor.ensures in
    rw was (items ∙ sym (ap (journal_after journal (entry c.args.seat (Run p))) (sym runs ∙ done.1)))

pub returns-in-Done-clause-marks : goal.returns-in-Done-clause-marks
returns-in-Done-clause-marks g c =
    let b = c.self.invariant in
    let site = g.S.Site in
    let kernel = c.self.inside.kernel in
    let journal = c.self.inside.scribe.journal in
    let o = c.args.outcome.now in
    let p = o.ticket.processor in
    let was : c.args.self.now.journal ≡ journal = search rules in
    let here : actor_after site.image site.bound c.args.self.now.journal p ≡ Some o.ticket.actor = search rules in
    let runs : applied kernel.system (code_meaning kernel.body) kernel.world c.processor-2.result
    (ending c.ended.result) ≡ reaction site.image site.bound (events journal) (Run p) =
    ap (λ q. applied kernel.system (code_meaning kernel.body) kernel.world q (ending c.ended.result))
    c.processor-2.ensures
    ∙ ap (λ x. applied kernel.system (code_meaning kernel.body) kernel.world p x) c.ended.ensures
    ∙ outcome_runs site.image site.bound site.row_id.capacity site.row_id.seats kernel journal o b.3
    c.requires.outcome c.requires.drawn.is_of (rw was at here) in
    let done = done_by (applied kernel.system (code_meaning kernel.body) kernel.world c.processor-2.result
    (ending c.ended.result)) (sym c.in-Done.is ∙ c.apply.ensures.effect) in
    let marks : c.args.self.now.marks ≡ c.self.inside.scribe.marks = search rules in
    rw marks (rw was (ap (λ v. v.marks) c.write.ensures ∙ sym (ap (marks_after c.self.inside.scribe.marks c.args.seat)
    (sym runs ∙ done.1))))

pub invariant_of-self-in-Kept : goal.invariant_of-self-in-Kept
invariant_of-self-in-Kept g c =
    let b = c.self.invariant in
    let site = g.S.Site in
    let kernel = c.self.inside.kernel in
    let journal = c.self.inside.scribe.journal in
    let o = c.args.outcome.now in
    let p = o.ticket.processor in
    let was : c.args.self.now.journal ≡ journal = search rules in
    let here : actor_after site.image site.bound c.args.self.now.journal p ≡ Some o.ticket.actor = search rules in
    let lt : length journal < site.row_id.capacity = search rules in
    let runs : applied kernel.system (code_meaning kernel.body) kernel.world c.processor-2.result
    (ending c.ended.result) ≡ reaction site.image site.bound (events journal) (Run p) =
    ap (λ q. applied kernel.system (code_meaning kernel.body) kernel.world q (ending c.ended.result))
    c.processor-2.ensures
    ∙ ap (λ x. applied kernel.system (code_meaning kernel.body) kernel.world p x) c.ended.ensures
    ∙ outcome_runs site.image site.bound site.row_id.capacity site.row_id.seats kernel journal o b.3
    c.requires.outcome c.requires.drawn.is_of (rw was at here) in
    let kept = kept_by (applied kernel.system (code_meaning kernel.body) kernel.world c.processor-2.result
    (ending c.ended.result)) (sym c.in-Kept.is ∙ c.apply.ensures.effect) in
    let items : c.write-in-Kept.new.self.journal ≡ journal ++ entry c.args.seat (Run p) ∷ [] =
    ap (λ v. v.journal) c.write-in-Kept.ensures ∙ ap (λ (q : ℕ). journal ++ entry c.args.seat (Run q) ∷ [])
    c.processor.ensures in (
      b.0,
      ap (λ v. v.row) c.write-in-Kept.ensures ∙ b.1,
      b.2,
      subst (λ (xs : List JournalEntry). IsReplay site.image site.bound site.row_id.capacity site.row_id.seats
          c.apply.new.self xs) (sym items)
          (replay_more site.image site.bound site.row_id.capacity site.row_id.seats kernel c.apply.new.self journal
          (entry c.args.seat (Run p)) (Kept kept.0 kept.1) b.3 lt c.requires.seat (sym runs ∙ kept.2) tt
          (c.apply.ensures.state ∙ ap (view_after kernel) kept.2)),
      b.4,
    )

pub returns-in-Kept-clause-answer : goal.returns-in-Kept-clause-answer
returns-in-Kept-clause-answer g c =
    let b = c.self.invariant in
    let site = g.S.Site in
    let kernel = c.self.inside.kernel in
    let journal = c.self.inside.scribe.journal in
    let o = c.args.outcome.now in
    let p = o.ticket.processor in
    let was : c.args.self.now.journal ≡ journal = search rules in
    let here : actor_after site.image site.bound c.args.self.now.journal p ≡ Some o.ticket.actor = search rules in
    let there = rw was at here in
    let lt : length journal < site.row_id.capacity = search rules in
    let runs : applied kernel.system (code_meaning kernel.body) kernel.world c.processor-2.result
    (ending c.ended.result) ≡ reaction site.image site.bound (events journal) (Run p) =
    ap (λ q. applied kernel.system (code_meaning kernel.body) kernel.world q (ending c.ended.result))
    c.processor-2.ensures
    ∙ ap (λ x. applied kernel.system (code_meaning kernel.body) kernel.world p x) c.ended.ensures
    ∙ outcome_runs site.image site.bound site.row_id.capacity site.row_id.seats kernel journal o b.3
    c.requires.outcome c.requires.drawn.is_of there in
    let kept = kept_by (applied kernel.system (code_meaning kernel.body) kernel.world c.processor-2.result
    (ending c.ended.result)) (sym c.in-Kept.is ∙ c.apply.ensures.effect) in
    let count : c.len-in-Kept.result ≡ length journal + 1 = search (rules, length-append) in
    rw was (
      stamp_of_actor site.image site.bound journal p o.ticket.actor there,
      lt,
      c.kept.ensures ∙ receipt_kept _ kept.0 kept.1 _ _ (sym runs ∙ kept.2) count,
    )

pub returns-in-Kept-clause-journal : goal.returns-in-Kept-clause-journal
returns-in-Kept-clause-journal g c =
    let b = c.self.invariant in
    let site = g.S.Site in
    let kernel = c.self.inside.kernel in
    let journal = c.self.inside.scribe.journal in
    let o = c.args.outcome.now in
    let p = o.ticket.processor in
    let was : c.args.self.now.journal ≡ journal = search rules in
    let here : actor_after site.image site.bound c.args.self.now.journal p ≡ Some o.ticket.actor = search rules in
    let runs : applied kernel.system (code_meaning kernel.body) kernel.world c.processor-2.result
    (ending c.ended.result) ≡ reaction site.image site.bound (events journal) (Run p) =
    ap (λ q. applied kernel.system (code_meaning kernel.body) kernel.world q (ending c.ended.result))
    c.processor-2.ensures
    ∙ ap (λ x. applied kernel.system (code_meaning kernel.body) kernel.world p x) c.ended.ensures
    ∙ outcome_runs site.image site.bound site.row_id.capacity site.row_id.seats kernel journal o b.3
    c.requires.outcome c.requires.drawn.is_of (rw was at here) in
    let kept = kept_by (applied kernel.system (code_meaning kernel.body) kernel.world c.processor-2.result
    (ending c.ended.result)) (sym c.in-Kept.is ∙ c.apply.ensures.effect) in
    let items : c.write-in-Kept.new.self.journal ≡ journal ++ entry c.args.seat (Run p) ∷ [] =
    ap (λ v. v.journal) c.write-in-Kept.ensures ∙ ap (λ (q : ℕ). journal ++ entry c.args.seat (Run q) ∷ [])
    c.processor.ensures in
    rw was (items ∙ sym (ap (journal_after journal (entry c.args.seat (Run p))) (sym runs ∙ kept.2)))

pub returns-in-Kept-clause-marks : goal.returns-in-Kept-clause-marks
returns-in-Kept-clause-marks g c =
    let b = c.self.invariant in
    let site = g.S.Site in
    let kernel = c.self.inside.kernel in
    let journal = c.self.inside.scribe.journal in
    let o = c.args.outcome.now in
    let p = o.ticket.processor in
    let was : c.args.self.now.journal ≡ journal = search rules in
    let here : actor_after site.image site.bound c.args.self.now.journal p ≡ Some o.ticket.actor = search rules in
    let runs : applied kernel.system (code_meaning kernel.body) kernel.world c.processor-2.result
    (ending c.ended.result) ≡ reaction site.image site.bound (events journal) (Run p) =
    ap (λ q. applied kernel.system (code_meaning kernel.body) kernel.world q (ending c.ended.result))
    c.processor-2.ensures
    ∙ ap (λ x. applied kernel.system (code_meaning kernel.body) kernel.world p x) c.ended.ensures
    ∙ outcome_runs site.image site.bound site.row_id.capacity site.row_id.seats kernel journal o b.3
    c.requires.outcome c.requires.drawn.is_of (rw was at here) in
    let kept = kept_by (applied kernel.system (code_meaning kernel.body) kernel.world c.processor-2.result
    (ending c.ended.result)) (sym c.in-Kept.is ∙ c.apply.ensures.effect) in
    let marks : c.args.self.now.marks ≡ c.self.inside.scribe.marks = search rules in
    rw marks (rw was (ap (λ v. v.marks) c.write-in-Kept.ensures
    ∙ sym (ap (marks_after c.self.inside.scribe.marks c.args.seat) (sym runs ∙ kept.2))))
