use Rattle.std.proofs.Common.{◌∙◌, List, OnOk, ap, count_by, subst, sym, ℕ}
use Rattle.fmp_base.specs.declared.events.Event.{Event}
use Rattle.fmp_explore.specs.Searching.{HasKept}
use Rattle.fmp_explore.specs.States.{AreFew, watched_with}
use Rattle.fmp_schedules.specs.Deadlocks.{is_interrupt}
use Rattle.fmp_explore.proofs.KernelLemmas.{followed_sound}
use Rattle.fmp_witness.proofs.OverLemmas.{over_after}
use Rattle.fmp_explore.proofs.searches.Search.keep_first.Goals as goal
use Rattle.fmp_witness.specs.Asked.{asked_of}

pub keep-requires-clause-sound : goal.keep-requires-clause-sound
keep-requires-clause-sound c =
    let asked = asked_of c.args.subject.now in
    let es = asked.question.after.items in
    record {
      over = over_after asked.image asked.bound es c.args.kernel.now c.requires.followed;
      sound = followed_sound asked c.keeps_rules.ensures es c.args.kernel.now c.requires.followed;
    }

pub keep-requires-clause-few : goal.keep-requires-clause-few
keep-requires-clause-few c =
    let s = c.args.subject.now in
    subst (λ (came : ℕ). AreFew s.question.now came)
    (sym (c.interrupt_count-came.ensures ∙ ap (λ (es : List Event). count_by is_interrupt es) c.deref.ensures.value))
    c.requires.few

pub returns : goal.returns
returns c =
    let asked = asked_of c.args.subject.now in
    subst
    (λ (came : ℕ). OnOk c.keep.result (HasKept asked c.args.self.now c.keep.new.self
    c.args.kernel.now.world (watched_with asked.question came c.args.monitors.now)))
    (c.interrupt_count-came.ensures ∙ ap (λ (es : List Event). count_by is_interrupt es) c.deref.ensures.value)
    c.keep.ensures
