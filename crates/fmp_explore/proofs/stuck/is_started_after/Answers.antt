use Rattle.std.proofs.Common.{◌∙◌, ap, not, sym}
use Rattle.fmp_base.specs.States.{KernelState, task_at}
use Rattle.fmp_base.specs.TaskCalls.{is_dormant}
use Rattle.fmp_explore.proofs.StuckLemmas.{started_after}
use Rattle.fmp_explore.proofs.stuck.is_started_after.Goals as goal

pub returns : goal.returns
returns c = λ yes.
    started_after c.args.image.now c.args.n c.args.steps.now c.args.kernel.now c.args.t c.requires
    (ap (λ (s : KernelState). not (is_dormant (task_at s.tasks c.args.t).phase)) (sym c.tables.ensures.state)
    ∙ sym c.is_started.ensures ∙ yes)
