use Rattle.std.proofs.Common.{◌≡◌, Option, ℕ, true, ap, sym, ◌∙◌}
use Rattle.fmp_base.specs.declared.states.Processor.{Processor}
use Rattle.fmp_base.specs.Queues.{top}
use Rattle.fmp_base.specs.Settles.{is_same_task}
use Rattle.fmp_base.specs.States.{processor_at}
use Rattle.fmp_kernel.proofs.SettleLemmas.{held_same, settled_none}
use Rattle.fmp_kernel.proofs.settling.settle_on.Goals as goal
use Rattle.fmp_tasks.specs.Tables.{progress}

pub unmark-requires-clause-same : goal.unmark-requires-clause-same
unmark-requires-clause-same c =
    let s = c.args.tables.now.state in
    let p = c.args.p in
    ap (λ (x : Processor). is_same_task x.run (top s p)) (sym c.processor.ensures)
    ∙ ap (λ (o : Option ℕ). is_same_task c.processor.result.run o) (sym c.top-run.ensures.value)
    ∙ sym c.is_same_task.ensures ∙ c.if-is_same_task.true

pub returns-then-is_same_task-clause-progress : goal.returns-then-is_same_task-clause-progress
returns-then-is_same_task-clause-progress c =
    let s = c.args.tables.now.state in
    let p = c.args.p in
    let g = progress c.args.tables.now c.args.lines.now.items in
    let same : is_same_task (processor_at s p).run (top s p) ≡ true =
    ap (λ (x : Processor). is_same_task x.run (top s p)) (sym c.processor.ensures)
    ∙ ap (λ (o : Option ℕ). is_same_task c.processor.result.run o) (sym c.top-run.ensures.value)
    ∙ sym c.is_same_task.ensures ∙ c.if-is_same_task.true in
    rw c.unmark.ensures
    (held_same g p same ∙ sym (settled_none c.args.tables.now.system g p (processor_at s p) c.in-None.ensures.value))
