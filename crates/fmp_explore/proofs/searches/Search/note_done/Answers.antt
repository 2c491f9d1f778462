use Rattle.std.proofs.Common.{◌≡◌, ◌∙◌, List, ap, false, subst, sym}
use Rattle.std.proofs.lemmas.Result.{IfOk-weaker}
use Rattle.fmp_base.specs.declared.events.Line.{Line}
use Rattle.fmp_schedules.specs.declared.monitor.Monitor.{Monitor}
use Rattle.fmp_schedules.specs.Schedules.{is_any_broken, monitors_after}
use Rattle.fmp_explore.specs.Searching.{HasKept, came_on}
use Rattle.fmp_explore.specs.States.{AreMonitorsOf, watched_with}
use Rattle.fmp_explore.proofs.NextLemmas.{dealt_done}
use Rattle.fmp_explore.proofs.MonitorLemmas.{held-after}
use Rattle.fmp_explore.proofs.SearchStepLemmas.{same_live}
use Rattle.fmp_explore.proofs.searches.Search.note_done.Goals as goal
use Rattle.fmp_witness.specs.Asked.{asked_of}

pub keep_next-requires-clause-live : goal.keep_next-requires-clause-live
keep_next-requires-clause-live c =
    same_live (asked_of c.args.attempt.here.subject.now) c.args.self.now c.note_lines.new.self
    c.in_ok-note_lines.ensures.stays.same
    c.requires.search.table.live

pub keep_next-requires-clause-held : goal.keep_next-requires-clause-held
keep_next-requires-clause-held c =
    subst (λ (ss : List Monitor). AreMonitorsOf c.args.attempt.here.subject.now.question.now.monitors.items ss)
    (sym c.deref-then-are_none.ensures.value) c.requires.attempt.state.held

pub returns-then-are_none : goal.returns-then-are_none
returns-then-are_none c = λ w done.
    let asked = asked_of c.args.attempt.here.subject.now in
    let a = c.args.attempt in
    let at = a.here.at.now in
    let none = sym c.deref-2.ensures.value ∙ c.are_none.ensures c.if-are_none.true in
    IfOk-weaker c.keep_next.result _ _
    (λ _ kept. dealt_done asked c.args.self.now c.note_lines.new.self c.keep_next.new.self
    c.args.kernel.now w at.came at.monitors.items a.event c.requires.search c.in_ok-note_lines.ensures.stays
    c.in_ok-note_lines.ensures.clean
    (λ sure. subst (λ (ss : List Monitor). is_any_broken ss c.args.kernel.now.lines ≡ false)
    c.deref.ensures.value (c.in_ok-note_lines.ensures.alone sure))
    c.in_ok-note_lines.ensures.written done c.requires.sound.sound
    (subst (λ (ss : List Monitor). HasKept asked c.note_lines.new.self c.keep_next.new.self
    c.args.kernel.now.world (watched_with asked.question (came_on asked.question.interrupts at.came a.event) ss))
    (c.deref-then-are_none.ensures.value
    ∙ (none ∙ sym (ap (λ (ss : List Monitor). monitors_after ss c.args.kernel.now.lines) none))) kept))
    c.keep_next.ensures

pub keep_next-requires-2-clause-live : goal.keep_next-requires-2-clause-live
keep_next-requires-2-clause-live c =
    same_live (asked_of c.args.attempt.here.subject.now) c.args.self.now c.note_lines.new.self
    c.in_ok-note_lines.ensures.stays.same
    c.requires.search.table.live

pub keep_next-requires-2-clause-held : goal.keep_next-requires-2-clause-held
keep_next-requires-2-clause-held c =
    let s = c.args.attempt.here.subject.now in
    subst (λ (ss : List Monitor). AreMonitorsOf s.question.now.monitors.items ss)
    (sym (c.deref-4.ensures.value ∙ c.in_ok-monitors.ensures
    ∙ ap (λ (ss : List Monitor). monitors_after ss c.lines.result.now) c.deref-3.ensures.value))
    (held-after s.question.now.monitors.items c.args.attempt.here.at.now.monitors.items c.lines.result.now
    c.requires.attempt.state.held)

pub returns : goal.returns
returns c = λ w done.
    let asked = asked_of c.args.attempt.here.subject.now in
    let a = c.args.attempt in
    let at = a.here.at.now in
    IfOk-weaker c.keep_next-2.result _ _
    (λ _ kept. dealt_done asked c.args.self.now c.note_lines.new.self c.keep_next-2.new.self
    c.args.kernel.now w at.came at.monitors.items a.event c.requires.search c.in_ok-note_lines.ensures.stays
    c.in_ok-note_lines.ensures.clean
    (λ sure. subst (λ (ss : List Monitor). is_any_broken ss c.args.kernel.now.lines ≡ false)
    c.deref.ensures.value (c.in_ok-note_lines.ensures.alone sure))
    c.in_ok-note_lines.ensures.written done c.requires.sound.sound
    (subst (λ (ss : List Monitor). HasKept asked c.note_lines.new.self c.keep_next-2.new.self
    c.args.kernel.now.world (watched_with asked.question (came_on asked.question.interrupts at.came a.event) ss))
    (c.deref-4.ensures.value ∙ c.in_ok-monitors.ensures
    ∙ ap (λ (ss : List Monitor). monitors_after ss c.lines.result.now) c.deref-3.ensures.value
    ∙ ap (λ (ls : List Line). monitors_after at.monitors.items ls) c.lines.ensures) kept)) c.keep_next-2.ensures
