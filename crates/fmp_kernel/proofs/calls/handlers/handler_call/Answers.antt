use Rattle.std.proofs.Common.{rules, ℕ}
use Rattle.fmp_base.specs.declared.states.TaskBlock.{TaskBlock}
use Rattle.fmp_kernel.proofs.calls.handlers.handler_call.Goals as goal

pub returns-in-IpsndDtq-clause-outcome : goal.returns-in-IpsndDtq-clause-outcome
returns-in-IpsndDtq-clause-outcome c =
    λ (me : ℕ) (x : TaskBlock). let sent = c.psnd_dtq.ensures.outcome me x in rw c.in-IpsndDtq.is (search rules)
