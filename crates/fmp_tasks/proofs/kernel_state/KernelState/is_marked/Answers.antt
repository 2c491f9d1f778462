use Rattle.std.proofs.Common.{◌<◌, ◌∙◌, sym}
use Rattle.fmp_tasks.proofs.RestLemmas.{unmarked_none, unmarked_same}
use Rattle.fmp_tasks.proofs.kernel_state.KernelState.is_marked.Goals as goal

pub returns-clause-none : goal.returns-clause-none
returns-clause-none c =
    let l : c.args.p < c.self.inside.system.processors = rw (← c.self.view_is) at c.requires in
    rw (← c.self.view_is) (λ e. unmarked_none c.self.inside c.args.p c.self.invariant l (sym c.is_marked.ensures ∙ e))

pub returns-clause-same : goal.returns-clause-same
returns-clause-same c =
    let l : c.args.p < c.self.inside.system.processors = rw (← c.self.view_is) at c.requires in
    rw (← c.self.view_is) (λ e. unmarked_same c.self.inside c.args.p c.self.invariant l (sym c.is_marked.ensures ∙ e))
