use Rattle.std.proofs.Common.{List, subst, sym}
use Rattle.std.proofs.lemmas.Result.{IfOk-weaker}
use Rattle.fmp_schedules.specs.declared.monitor.Monitor.{Monitor}
use Rattle.fmp_explore.specs.Searching.{HasKept, came_on}
use Rattle.fmp_explore.specs.States.{AreMonitorsOf, watched_with}
use Rattle.fmp_explore.proofs.NextLemmas.{dealt_kept}
use Rattle.fmp_explore.proofs.SearchStepLemmas.{same_live}
use Rattle.fmp_explore.proofs.searches.Search.note_kept.Goals as goal
use Rattle.fmp_witness.specs.Asked.{asked_of}

pub keep_next-requires-clause-live : goal.keep_next-requires-clause-live
keep_next-requires-clause-live c =
    same_live (asked_of c.args.attempt.here.subject.now) c.args.self.now c.note_place.new.self
    c.in_ok-note_place.ensures.same
    c.requires.search.table.live

pub keep_next-requires-clause-held : goal.keep_next-requires-clause-held
keep_next-requires-clause-held c =
    let s = c.args.attempt.here.subject.now in
    subst (λ (ss : List Monitor). AreMonitorsOf s.question.now.monitors.items ss) (sym c.deref.ensures.value)
    c.requires.attempt.state.held

pub returns : goal.returns
returns c = λ w kept_place.
    let asked = asked_of c.args.attempt.here.subject.now in
    let a = c.args.attempt in
    let at = a.here.at.now in
    IfOk-weaker c.keep_next.result _ _
    (λ _ kept. dealt_kept asked c.args.self.now c.note_place.new.self c.keep_next.new.self
    c.args.kernel.now w at.came at.monitors.items a.event c.requires.search c.in_ok-note_place.ensures kept_place
    c.requires.sound.sound
    (subst (λ (ss : List Monitor). HasKept asked c.note_place.new.self c.keep_next.new.self
    c.args.kernel.now.world (watched_with asked.question (came_on asked.question.interrupts at.came a.event) ss))
    c.deref.ensures.value kept)) c.keep_next.ensures
