use Rattle.std.proofs.Common.{[], ◌∷◌}
use Rattle.std.proofs.lemmas.List.Elements.{All-append, All-cons, All-nil}
use Rattle.fmp_warnings.specs.Verdicts.{IsIdleStep}
use Rattle.fmp_warnings.proofs.idle.idle_among.Goals as goal
use Rattle.fmp_warnings.proofs.idle.idle_among.Goals.{in-Some+in_ok-step_warning+in_ok-push, in_default}

pub loop-event-preserved : goal.loop-event-preserved
loop-event-preserved c =
    let p = IsIdleStep c.args.steps.now in
    let before = c.loop-event.found.items in
    elim c.match-idle_interrupt.branch [
      | in-Some+in_ok-step_warning+in_ok-push w ↦
          let x = w.in_ok-step_warning.field-0 in
          let one = All-cons p x [] (c.saturating_add-line.result, w.in_ok-step_warning.ensures) (All-nil p) in
          rw w.found-is
          (rw w.in_ok-push.ensures.items (All-append p before (x ∷ []) c.loop-event.invariant one))
      | in_default w ↦ rw w.found-is c.loop-event.invariant
    ]
