use Rattle.std.proofs.Common.{◌∙◌, ◌+◌, ◌*◌, List, ap, length, ℕ}
use Rattle.std.proofs.lemmas.List.{length-map}
use Rattle.fmp_base.specs.declared.events.Line.{Line}
use Rattle.fmp_schedules.specs.declared.monitor.Monitor.{Monitor}
use Rattle.fmp_schedules.specs.Schedules.{monitors_after}
use Rattle.fmp_explore.proofs.NextLemmas.{clean_setup, fresh_search, lines_at_setup}
use Rattle.fmp_explore.proofs.searches.Search.begin_on.Goals as goal
use Rattle.fmp_witness.specs.Asked.{asked_of}

pub begin_after-requires-clause-search : goal.begin_after-requires-clause-search
begin_after-requires-clause-search c =
    let asked = asked_of c.args.subject.now in
    let stays = c.in_ok-note_setup.ensures.stays in
    fresh_search asked c.args.self.now _ c.requires.fresh stays.same.tries
    (c.begin.ensures.fields ∙ stays.same.fields) (c.begin.ensures.outs ∙ stays.same.outs)
    (c.begin.ensures.live ∙ stays.same.live)
    (c.in_ok-begin.ensures.first
    ∙ ap (λ (k : ℕ). length c.begin.new.self.fields.items + 2 * k)
    (ap (λ (ss : List Monitor). length ss) (c.deref-2.ensures.value ∙ c.in_ok-monitors.ensures)
    ∙ length-map c.deref.result.now _
    ∙ ap (λ (ss : List Monitor). length ss) c.deref.ensures.value))

pub begin_after-requires-clause-monitors : goal.begin_after-requires-clause-monitors
begin_after-requires-clause-monitors c =
    let asked = asked_of c.args.subject.now in
    c.deref-3.ensures.value
    ∙ c.in_ok-monitors.ensures
    ∙ ap (λ (ss : List Monitor). monitors_after ss c.lines.result.now) c.deref.ensures.value
    ∙ ap (λ (ls : List Line). monitors_after asked.question.monitors.items ls) c.lines.ensures
    ∙ lines_at_setup asked c.args.kernel.now c.requires.kernel

pub begin_after-requires-clause-clean : goal.begin_after-requires-clause-clean
begin_after-requires-clause-clean c = λ sure.
    let asked = asked_of c.args.subject.now in
    clean_setup asked c.args.kernel.now c.requires.kernel
    (c.in_ok-note_setup.ensures.clean sure) (c.in_ok-note_setup.ensures.alone sure)
