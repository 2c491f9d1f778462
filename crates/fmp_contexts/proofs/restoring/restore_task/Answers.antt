use Rattle.std.proofs.Common.{◌≡◌, ◌∙◌, ap, subst, ℕ}
use Rattle.fmp_base.specs.declared.systems.TaskConfig.{TaskConfig}
use Rattle.fmp_base.specs.Meanings.{task_body}
use Rattle.fmp_base.specs.Systems.{body_of}
use Rattle.fmp_contexts.proofs.RestoreLemmas.{fitting_held, places_task}
use Rattle.fmp_contexts.proofs.restoring.restore_task.Goals as goal

pub returns-then-accepts-clause-fitting : goal.returns-then-accepts-clause-fitting
returns-then-accepts-clause-fitting g c =
    let sys = c.args.tables.now.system in
    let body = c.args.body.now in
    let context = c.args.context.now in
    let own : c.body_number-entry.result ≡ task_body sys c.args.t =
    c.body_number-entry.ensures ∙ ap (λ (x : TaskConfig). body_of x.entry) c.task_config.ensures.value in
    let known = subst (λ (n : ℕ). g.B.Body.is_context body n context) own (c.accepts.ensures c.if-accepts.true) in
    rw c.put_task.ensures
    (fitting_held c.args.contexts.now c.args.t c.awaits_reply-awaits.result context c.requires.contexts known)

pub returns-then-accepts-clause-places : goal.returns-then-accepts-clause-places
returns-then-accepts-clause-places g c =
    rw c.put_task.ensures (places_task c.args.contexts.now c.args.t _ c.requires.places)
