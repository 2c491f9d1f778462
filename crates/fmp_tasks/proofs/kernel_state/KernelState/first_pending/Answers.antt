use Rattle.std.proofs.Common.{ap, ◌∙◌, arith}
use Rattle.fmp_base.specs.Systems.{tables_of}
use Rattle.fmp_spin.specs.Pending.{HandlerProcessors, first_handler}
use Rattle.fmp_spin.specs.PendingLaws.{first_handler-is}
use Rattle.fmp_tasks.specs.Tables.{tables_view}
use Rattle.fmp_tasks.proofs.kernel_state.KernelState.first_pending.Goals as goal

pub returns-clause-value : goal.returns-clause-value
returns-clause-value c =
    let is = c.self.invariant.pending_interrupts in
    let cs = c.self.invariant.pending_cyclics in
    rw (← c.self.view_is)
    (c.first.ensures.value
    ∙ ap (λ (on : HandlerProcessors). first_handler
    (record
    { processors = on; interrupts = c.self.inside.pending.interrupts; cyclics = c.self.inside.pending.cyclics })
    c.args.p) c.self.invariant.handlers
    ∙ first_handler-is (tables_of c.self.inside.system) (tables_view c.self.inside).state c.args.p (omega (arith, is))
    (omega (arith, cs)))
