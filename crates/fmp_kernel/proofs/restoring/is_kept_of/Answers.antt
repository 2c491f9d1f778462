use Rattle.std.proofs.Common.{ap, sym, ◌∙◌}
use Rattle.fmp_base.specs.declared.states.TaskBlock.{TaskBlock}
use Rattle.fmp_kernel.proofs.RestoredLemmas.{going_free, going_there, not_ready, some_there}
use Rattle.fmp_kernel.proofs.restoring.is_kept_of.Goals as goal

pub returns-then-is_ready_phase : goal.returns-then-is_ready_phase
returns-then-is_ready_phase g c =
    λ e. record {
      kept = going_there _ (sym c.goes.ensures ∙ e);
      free = λ h. going_free _ (sym c.goes.ensures ∙ e);
    }

pub returns-else-is_ready_phase : goal.returns-else-is_ready_phase
returns-else-is_ready_phase g c =
    λ e. record {
      kept = some_there _ (sym c.has_task.ensures ∙ e);
      free =
          λ h. absurd (not_ready c.task.result.phase (sym c.is_ready_phase.ensures ∙ c.if-is_ready_phase.false)
          (ap (λ (x : TaskBlock). x.phase) c.task.ensures.value ∙ h));
    }
