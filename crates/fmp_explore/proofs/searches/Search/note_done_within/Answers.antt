use Rattle.std.proofs.Common.{◌∙◌, List, ap, refl, sym}
use Rattle.fmp_explore.specs.Searching.{watched_in}
use Rattle.fmp_schedules.specs.declared.monitor.Monitor.{Monitor}
use Rattle.fmp_schedules.specs.Monitors.{all_let}
use Rattle.fmp_explore.proofs.MarkLemmas.{held_back, left_out}
use Rattle.fmp_explore.proofs.NextLemmas.{dealt_not}
use Rattle.fmp_explore.proofs.searches.Search.note_done_within.Goals as goal
use Rattle.fmp_witness.specs.Asked.{asked_of}

pub returns-then-not-queues_within : goal.returns-then-not-queues_within
returns-then-not-queues_within c = λ w done.
    let asked = asked_of c.args.attempt.here.subject.now in
    let a = c.args.attempt in
    let x = watched_in asked.question a.here.at.now in
    dealt_not asked c.args.self.now _ w x a.event
    (record {
      same = record { tries = refl; fields = refl; first = refl; outs = refl; live = refl };
      seen = refl;
      sure = λ e. e;
    })
    (left_out asked w x c.args.kernel.now a.event done
    (sym c.queues_within.ensures ∙ c.if-not-queues_within.true))

pub returns-then-not-all_let : goal.returns-then-not-all_let
returns-then-not-all_let c = λ w done.
    let asked = asked_of c.args.attempt.here.subject.now in
    let a = c.args.attempt in
    let x = watched_in asked.question a.here.at.now in
    dealt_not asked c.args.self.now _ w x a.event c.note_held.ensures
    (held_back asked w x a.event
    (ap (λ (ms : List Monitor). all_let ms a.event) (sym c.deref.ensures.value)
    ∙ sym c.all_let.ensures ∙ c.if-not-all_let.true))
