use Rattle.std.proofs.Common.{◌∙◌, refl, sym}
use Rattle.fmp_base.specs.declared.events.Event.TheVariants as event
use Rattle.fmp_explore.specs.Searching.{watched_in}
use Rattle.fmp_explore.proofs.MarkLemmas.{few_more, few_still, interrupt_never, tick_never}
use Rattle.fmp_explore.proofs.examining.may_try.Goals as goal
use Rattle.fmp_witness.specs.Asked.{asked_of}

pub returns-in-Run-clause-few : goal.returns-in-Run-clause-few
returns-in-Run-clause-few c = λ yes limited.
    rw c.in-Run.is
    (few_still c.args.here.subject.now.question.now c.args.here.at.now.came (event.Run c.in-Run.field-0) refl
    c.requires.few
    limited)

pub returns-in-Tick-clause-few : goal.returns-in-Tick-clause-few
returns-in-Tick-clause-few c = λ yes limited.
    rw c.in-Tick.is
    (few_still c.args.here.subject.now.question.now c.args.here.at.now.came event.Tick refl c.requires.few limited)

pub returns-in-Int-clause-few : goal.returns-in-Int-clause-few
returns-in-Int-clause-few c = λ yes limited.
    rw c.in-Int.is
    (few_more c.args.here.subject.now.question.now c.args.here.at.now.came c.in-Int.field-0
    (c.may_interrupt.ensures.few yes)
    limited)

pub returns-in-Tick-clause-no : goal.returns-in-Tick-clause-no
returns-in-Tick-clause-no c = λ w no marks.
    let asked = asked_of c.args.here.subject.now in
    rw c.in-Tick.is
    (tick_never asked w (watched_in asked.question c.args.here.at.now) c.args.marks marks
    (c.may_tick.ensures.ticks no) (c.may_tick.ensures.marks no))

pub returns-in-Int-clause-no : goal.returns-in-Int-clause-no
returns-in-Int-clause-no c = λ w no marks.
    let asked = asked_of c.args.here.subject.now in
    rw c.in-Int.is
    (interrupt_never asked w (watched_in asked.question c.args.here.at.now) c.in-Int.field-0
    (sym c.may_interrupt.ensures.may ∙ no))
