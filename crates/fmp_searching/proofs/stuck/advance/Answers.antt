use Rattle.std.proofs.Common.{List, ap, ◌∙◌}
use Rattle.fmp_instructions.specs.Instructions.{BodyTables}
use Rattle.fmp_instructions.specs.declared.instructions.MachineContext.{MachineContext}
use Rattle.fmp_kernel.specs.KernelViews.{KernelView}
use Rattle.fmp_searching.proofs.StuckLemmas.{body_stays}
use Rattle.fmp_searching.proofs.stuck.advance.Goals as goal

pub returns-clause-body : goal.returns-clause-body
returns-clause-body c =
    ap (λ (x : KernelView (List BodyTables) MachineContext). x.body) c.step.ensures.state
    ∙ body_stays c.args.kernel.now _
